-- `centre_on` gives the centre on the side that is asked for. Assumes nothing.
use Rattle.dubins.proofs.centre_on.Goals as goal

pub returns-then-right : goal.returns-then-right
returns-then-right c = λ p R χ h. (simp (c.if-right.true, h.right), h.right_near)

pub returns-else-right : goal.returns-else-right
returns-else-right c = λ p R χ h. (simp (c.if-right.false, h.left), h.left_near)
