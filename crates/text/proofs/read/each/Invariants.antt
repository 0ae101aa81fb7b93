use Rattle.std.proofs.Common.{Some, take, vec_items}
use Rattle.std.specs.Fn.{FnReturnsAt}
use Rattle.std.specs.List.{AllZip}
use Rattle.text.proofs.read.each.Given as goal

abbrev pub invariant-loop-word : goal.invariant-loop-word
invariant-loop-word g l = AllZip (λ w x. FnReturnsAt g.P.Fn l.read w.now (Some x)) (take l.word-index l.words) (vec_items l.all)
