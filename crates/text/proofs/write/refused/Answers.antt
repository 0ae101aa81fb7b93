use Rattle.std.proofs.Common.{append-nil, decimal}
use Rattle.std.proofs.lemmas.Result.{IfOk-weaker}
use Rattle.text.proofs.write.refused.Goals as goal

pub returns-in_default-Some : goal.returns-in_default-Some
returns-in_default-Some c =
    IfOk-weaker c.format.result _ _ (λ s h. rw (c.told.ensures, c.in_default-Some.is-1, append-nil (decimal c.in_default-Some.value)) h) c.format.ensures.ok

pub returns-in_default-None : goal.returns-in_default-None
returns-in_default-None c =
    IfOk-weaker c.format-in_default-None.result _ _ (λ s h. rw (c.told.ensures, c.in_default-None.is-1, append-nil (decimal c.told.result.0)) h) c.format-in_default-None.ensures.ok
