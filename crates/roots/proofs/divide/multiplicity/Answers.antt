use Rattle.std.proofs.Common.{◌≡◌, suc, ◌+◌, ◌-◌, ◌<◌, ◌++◌, length, take, drop, sym, ap, ◌∙◌, add-one, arith, below_more, length-take, length-drop}
use lib.ListN.{length-map}
use Rattle.std.specs.List.{between}
use Rattle.std.proofs.lemmas.List.{drop-drop, take_at}
use Rattle.std.proofs.lemmas.Slice.{between_is, between_from_start, between-put_mid}
use borrow.Rule.Slice.PartMut.{put_mid}
use Rattle.algebra.specs.Polynomials.{eval}
use Rattle.roots.specs.Slopes.{reals}
use Rattle.roots.specs.Codes.{element, polynomial}
use Rattle.roots.specs.Rows.{row}
use Rattle.roots.proofs.TangentLaws.{tangent-reals}
use Rattle.roots.proofs.Multiplicities.{divided, divided-suc, multiplicity_from}
use Rattle.roots.proofs.Judging.{is_nought, not_nought}
use Rattle.roots.proofs.Coding.{good_from, top_nonzero}
use Rattle.roots.proofs.Building.{length-started}
use Rattle.roots.proofs.Dividing.{row-reals, part_remainder, row_quotient, divided_stops}
use Rattle.roots.proofs.divide.multiplicity.Goals as goal

pub loop-e-init : goal.loop-e-init
loop-e-init g c =
    let R = g.F.Ring in
    let L = g.met.F.Ring.lawful in
    let ys = c.start.new.level in
    let n = length c.args.f.codes.now in
    let all : between 0 n (ys ++ drop n c.args.work.now) ≡ ys = between_from_start (ys ++ drop n c.args.work.now) n ∙ take_at ys (drop n c.args.work.now) n (omega (arith, c.start.auto.level, length-take n c.args.work.now)) in (
      ap (row R) all ∙ row-reals R L ys ∙ ap reals c.start.ensures.written ∙ tangent-reals R.ring L _,
      λ i h. absurd (omega arith),
    )

pub returns-then-not-same : goal.returns-then-not-same
returns-then-not-same g c =
    let R = g.F.Ring in
    let L = g.met.F.Ring.lawful in
    let f = polynomial R g.F.Field c.args.f.codes.now in
    let a = R.value c.args.a in
    let e = c.loop-e.e in
    let n = length c.args.f.codes.now in
    let xs = c.loop-e.work in
    let ys = c.divide.new.level in
    let some : 0 < length ys = omega (arith, c.divide.auto.level, length-take (n - e) (drop e xs), length-drop e xs) in
    let rest = part_remainder R L xs ys e (n - e) a (divided R.ring a e f) c.loop-e.invariant.0 (omega (arith, c.loop-e.auto.work, length-started c.start.new.level c.args.work.now n c.start.auto.level, c.requires)) some c.divide.auto.level c.divide.ensures c.index-work-e.result in
    multiplicity_from R.ring L a e f c.loop-e.invariant.1
    (λ z. not_nought R.ring L c.same.result _ (R.value c.zero.result) c.zero.ensures.means c.same.ensures c.if-not-same.true (rest ∙ z))

pub loop-e-preserved : goal.loop-e-preserved
loop-e-preserved g c =
    let R = g.F.Ring in
    let o = R.ring in
    let L = g.met.F.Ring.lawful in
    let f = polynomial R g.F.Field c.args.f.codes.now in
    let a = R.value c.args.a in
    let e = c.loop-e.e in
    let n = length c.args.f.codes.now in
    let xs = c.loop-e.work in
    let ys = c.divide.new.level in
    let long : length ys ≡ n - e = omega (arith, c.divide.auto.level, length-take (n - e) (drop e xs), length-drop e xs, c.loop-e.auto.work, c.requires) in
    let some : 0 < length ys = omega arith in
    let rest = part_remainder R L xs ys e (n - e) a (divided R.ring a e f) c.loop-e.invariant.0 (omega (arith, c.loop-e.auto.work, length-started c.start.new.level c.args.work.now n c.start.auto.level, c.requires)) some c.divide.auto.level c.divide.ensures c.index-work-e.result in
    let vanish : eval o (divided o a e f) a ≡ o.nought =
    sym rest ∙ is_nought o L c.same.result _ (R.value c.zero.result) c.zero.ensures.means c.same.ensures c.if-not-same.false in
    let work = put_mid e (n - e) xs ys in
    let part : between (e + 1) n work ≡ drop 1 ys =
    between_is work (e + 1) n ∙ sym (drop-drop 1 e (take n work)) ∙ ap (drop 1) (sym (between_is work e n) ∙ between-put_mid e (n - e) xs ys n (omega arith) long) in (
      ap (row R) part ∙ row_quotient R L (between e n xs) ys a (divided o a e f) c.loop-e.invariant.0 some c.divide.auto.level c.divide.ensures
          ∙ sym (divided-suc o L a e f) ∙ ap (λ i. divided o a i f) (sym (add-one e)),
      λ i h. below_more (λ j. eval o (divided o a j f) a ≡ o.nought) e c.loop-e.invariant.1 vanish i h,
    )

pub returns : goal.returns
returns g c =
    let R = g.F.Ring in
    let L = g.met.F.Ring.lawful in
    let cs = c.args.f.codes.now in
    let f = polynomial R g.F.Field cs in
    let good = good_from g.F.Field.order cs c.args.f.good in
    let long : length f ≡ suc (length cs - 1) = length-map cs (λ x. element R g.F.Field x.0) ∙ omega (arith, good.some) in
    absurd (divided_stops R.ring L (R.value c.args.a) (length cs - 1) f long (top_nonzero R g.F.Field L c.field_laws-order.ensures.laws cs good)
    (λ i h. c.loop-e.invariant.1 i (omega arith)))
