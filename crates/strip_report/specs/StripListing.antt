-- Clauses 16.8, 16.9: the strip listing of a file, or the line of a refusal. Assumes nothing.
use Rattle.std.specs.Prelude.{◌≡◌, List, [], ◌++◌, ℕ, zero, suc, eqb}
use Rattle.conditions.specs.Choose.{choose}
use Rattle.refusals.specs.Outcome.{good, refused}
use Rattle.text.specs.Ascii.{ascii}
use Rattle.text.specs.Digits.{decimal_of}
use Rattle.text.specs.Parts.{count_text, refusal_text}
use Rattle.plan.specs.declared.Head.{Head}
use Rattle.manager.specs.declared.State.{State}
use Rattle.records.specs.Versions.{newest}
use Rattle.wpl.specs.declared.Loaded.{Loaded}
use Rattle.wpl.specs.Header.{version_of}
use Rattle.wpl.specs.Load.{load_of, loaded_of}
use Rattle.strips.specs.declared.Strip.{Strip}
use Rattle.strips.specs.Strips.{strips_in, StripPlan}
use Rattle.strips.specs.Check.{Checked, refused_check, check_of, strip_row}
use Rattle.report.specs.Listing.{newline, space, title_of}

-- ---- 16.8: the first line, and a line for each strip
unfoldable pub strip_title : ℕ → Head → ℕ → List ℕ
strip_title version h strips = title_of version h ++ (count_text (ascii " strips ") strips ++ newline)

unfoldable pub strip_line : Strip → List ℕ
strip_line s = decimal_of s.number ++ (count_text space s.course ++ (count_text space s.length ++ newline))

-- the lines of the first strips
unfoldable pub strip_lines_to : State → ℕ → List ℕ
strip_lines_to s zero = []
strip_lines_to s (suc i) = strip_lines_to s i ++ strip_line (strip_row s (suc i))

unfoldable pub strips_text : ℕ → State → ℕ → List ℕ
strips_text version s strips = strip_title version s.plan.head strips ++ strip_lines_to s strips

-- ---- 16.9: a refused check says its rule too; a refused load has the line of 16.3. Refusal 0 stands for none.
unfoldable pub fault_text : Checked → List ℕ
fault_text x = refusal_text x.refusal x.place ++ (count_text (ascii " rule ") x.rule ++ newline)

unfoldable pub checked_text : ℕ → State → Checked → List ℕ
checked_text version s x = choose (eqb x.refusal 0) (strips_text version s x.strips) (fault_text x)

unfoldable pub loaded_strips : ℕ → Loaded → List ℕ
loaded_strips version x =
    choose (eqb x.refusal 0) (checked_text version x.state (check_of x.state)) (refusal_text x.refusal x.place ++ newline)

unfoldable pub strip_listing_of : List ℕ → List ℕ
strip_listing_of file = loaded_strips (version_of file) (loaded_of (load_of newest file))

-- no strip listing is longer: a first line of at most 124 bytes, and for each of 32 strips a line of at most 63, by the types of their numbers
abbrev pub strip_listing_room : ℕ
strip_listing_room = 2140

-- ---- what a text owes a file as its strip listing: all strips of a strip plan, 18 of every other plan that loads, and never 14
pub record StripsListed (file text : List ℕ) : Type 0 where
  pub strips : (s : State) → load_of newest file ≡ good s → StripPlan s.plan → text ≡ strips_text (version_of file) s (strips_in s.plan.head.count)
  pub others : (s : State) → load_of newest file ≡ good s → (StripPlan s.plan → ⊥) → text ≡ fault_text (refused_check 18 (check_of s).place (check_of s).rule)
  pub refusal : (number place : ℕ) → load_of newest file ≡ refused number place → text ≡ refusal_text number place ++ newline

-- which fixes the text: no two texts of a file keep it
abbrev pub OneListing : Type 0
OneListing = (file a b : List ℕ) → StripsListed file a → StripsListed file b → a ≡ b
