-- A state's words in numbers, computed from their definitions. Assumes nothing.
use mathlib.Core.Path.{refl}
use Rattle.conditions.specs.Choose.{choose}
use Rattle.conditions.specs.Both.{both}
use Rattle.refusals.specs.Outcome.{check, is_good}
use Rattle.c_answer.specs.Words.{word_of, flag_of}
use Rattle.c_state.specs.Stored.{mode_word, mode_at, state_words, word_at, holds_state, taken_of}
use Rattle.c_state.specs.Layout.{Layout, Edges}
use Rattle.c_state.proofs.StoredLaws.{empty-words, taken_back}

pub layout : Layout
unfolding choose check both mode_word mode_at state_words word_at word_of flag_of holds_state taken_of
layout = record { taken = taken_back; words = refl; back = refl; empty = empty-words }

pub edges : Edges
unfolding choose check both is_good mode_at word_at holds_state taken_of
edges = record { most = refl; mode = refl; negative = refl; radius = refl; phase = refl; finished = refl }
