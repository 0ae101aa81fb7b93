use Rattle.std.proofs.Common.{◌≡◌, ℕ, zero, suc, map, get_or, replicate, refl}
use Rattle.tally.proofs.sums.Sums.blank.Goals as goal

-- a row of elements that all mean z
row_of : {S V : Type 0} (value : S → V) (z : V) (x : S) (n k : ℕ) → value x ≡ z → get_or (map value (replicate n x)) k z ≡ z
row_of value z x zero k e = refl
row_of value z x (suc n) zero e = e
row_of value z x (suc n) (suc k) e = row_of value z x n k e

pub returns : goal.returns
returns g c = record { framed = refl; turnover = refl; sums = λ k. row_of g.F.Ring.value g.F.Ring.ring.nought c.zero.result 96 k c.zero.ensures.means }
