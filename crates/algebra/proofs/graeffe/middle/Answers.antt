use Rattle.std.proofs.Common.{◌≡◌, ◌+◌, ◌-◌, map, length, ap, inl, inr, arith}
use lib.ListN.{length-map}
use Rattle.std.specs.List.{slice_range}
use Rattle.algebra.specs.Polynomials.{sign}
use Rattle.algebra.proofs.Sums.{total}
use Rattle.algebra.proofs.Places.{Around, around_start, around_step, read_value}
use Rattle.algebra.proofs.GraeffeLaws.{signed, middle_start, middle_step, middle_end}
use Rattle.algebra.proofs.graeffe.middle.Goals as goal

pub loop-x-init : goal.loop-x-init
loop-x-init g c =
    let R = g.R.Ring in
    let o = R.ring in
    let f = c.args.f.now in
    let k = c.args.k in
    let m = c.min-reach.result in
    let before = c.into_iter-x-iterator.result.a.rest.now in
    let after = c.into_iter-x-iterator.result.b.iter.rest.now in
    let first : before ≡ slice_range f (k - m) k = cc in
    let second : after ≡ slice_range f (k + 1) (k + 1 + m) = cc in
    let pairs : Around f before after k (length before) = around_start f before after k m (omega arith) (omega arith) first second in
    record {
      pairs = pairs;
      summed = cc (
        c.zero-odd.ensures.means,
        c.zero-even.ensures.means,
        middle_start o g.met.R.Ring.lawful (map R.value f) (k + k) (k - length before) (λ j h. omega (arith, length-map f R.value, pairs.room, ap length first)),
      );
    }

pub loop-x-preserved : goal.loop-x-preserved
loop-x-preserved g c =
    let R = g.R.Ring in
    let o = R.ring in
    let f = c.args.f.now in
    let k = c.args.k in
    let n = k + k in
    let a = c.loop-x.x-iterator.a.rest.now in
    let before = c.next.new.self.a.rest.now in
    let after = c.next.new.self.b.iter.rest.now in
    let x = c.in-Some.x.now in
    let y = c.in-Some.y.now in
    let s = c.in-Some.ensures.steps in
    let i = k - length a in
    let turn = around_step f a c.loop-x.x-iterator.b.iter.rest.now before after x y k c.loop-x.invariant.pairs s.0 s.1 in
    record {
      pairs = turn.left;
      summed = rw turn.next (middle_step o g.met.R.Ring.lawful (map R.value f) n i (R.value c.loop-x.odd) (R.value c.loop-x.even) (R.value c.add-next.result)
          (R.value x) (R.value y) c.loop-x.invariant.summed
          (read_value R.value f i x o.nought (omega arith) turn.first)
          (read_value R.value f (n - i) y o.nought (omega arith) turn.last)
          (cc (c.add-next.ensures.means, c.mul.ensures.means)));
    }

pub returns-clause-means : goal.returns-clause-means
returns-clause-means g c =
    let R = g.R.Ring in
    let o = R.ring in
    let f = c.args.f.now in
    let k = c.args.k in
    let all : k - length c.loop-x.x-iterator.a.rest.now ≡ k = elim c.in-None.ensures.steps [ inl h ↦ omega arith | inr h ↦ omega arith ] in
    let summed = rw all at c.loop-x.invariant.summed in
    let half : R.value c.add-half.result ≡ o.minus (o.times (sign o k) (total o (signed o (map R.value f) (k + k)) k)) =
    cc (c.add-half.ensures.means, c.neg.ensures.means) in
    middle_end o g.met.R.Ring.lawful (map R.value f) k (R.value c.add-half.result) (R.value c.add-2.result) half
    (cc (
      c.add-2.ensures.means,
      c.mul-2.ensures.means,
      c.neg-2.ensures.means,
      c.add.ensures.means,
      read_value R.value f k c.index-f-k.result o.nought (omega arith) c.index-f-k.is,
      read_value R.value f k c.index-f-k-2.result o.nought (omega arith) c.index-f-k-2.is,
    ))
