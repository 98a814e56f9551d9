-- `sweep` finds the first of the places whose check gives a number. Assumes nothing.
use Rattle.std.proofs.Common.{rules, ◌≡◌, ◌+◌, ◌-◌, ◌<◌, ◌≤◌, None, Some, subst, sym, ap, ◌∙◌}
use Rattle.refusals.specs.Sweep.{sweep, noted, passed_of}
use Rattle.refusals.proofs.SweepLaws.{noted-hit, noted-next}
use Rattle.refusals.proofs.sweep.Goals as goal

pub returns-in-Some-number_at : goal.returns-in-Some-number_at
returns-in-Some-number_at g c =
    let i = c.loop-place.place-iterator.start in
    let at : c.in-Some.place ≡ i = search rules in
    let low : c.args.places.start ≤ c.in-Some.place = search rules in
    let below : c.in-Some.place < c.args.places.end = search rules in
    λ f post.
    noted-hit f c.args.places.start c.args.places.end i (c.loop-place.invariant.1.1 f post) at (subst (λ k. k < c.args.places.end) at below)
    (post c.in-Some.place (Some c.in-Some-number_at.number) low below c.in-Some-number_at.ensures)

pub loop-place-preserved : goal.loop-place-preserved
loop-place-preserved g c =
    let i = c.loop-place.place-iterator.start in
    let at : c.in-Some.place ≡ i = search rules in
    let low : c.args.places.start ≤ c.in-Some.place = search rules in
    let below : c.in-Some.place < c.args.places.end = search rules in
    let next : c.next.new.self.start ≡ i + 1 = search rules in (
      search rules,
      (
        search rules,
        λ f post. noted-next f c.args.places.start c.args.places.end i (c.loop-place.invariant.1.1 f post) at (subst (λ k. k < c.args.places.end) at below)
            (post c.in-Some.place None low below c.in_default.ensures)
            ∙ ap (λ k. sweep f (c.args.places.end - k) k) (sym next),
      ),
    )

pub returns : goal.returns
unfolding sweep noted passed_of
returns g c = search rules
