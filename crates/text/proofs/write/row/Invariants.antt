use Rattle.std.proofs.Common.{◌≡◌, ℕ, List, ◌∷◌, Some, take, string_bytes}
use Rattle.std.specs.List.{All, flat_map}
use Rattle.text.proofs.write.row.Given as goal

abbrev pub invariant-loop-item : goal.invariant-loop-item
invariant-loop-item g l = (show : g.row.T.Denot → List ℕ) → All (λ x. g.T.Display.output x ≡ Some (show x)) l.items → string_bytes l.text ≡ flat_map (λ x. 32 ∷ show x) (take l.item-index l.items)
