use Rattle.std.proofs.Common.{◌≡◌, ◌%◌, ◌<◌, sym, ap, ◌∙◌, mod-lt, arith}
use Rattle.algebra.proofs.Fields.{number_mod}
use Rattle.algebra.proofs.field.whole.Goals as goal

pub returns-clause-means : goal.returns-clause-means
returns-clause-means g c =
    let R = g.F.Ring in
    let F = g.F.Field in
    let laws = c.field_laws-order.ensures.laws in
    let q : c.field_laws-order.result ≡ F.order = c.field_laws-order.ensures.answer in
    let pos : 0 < F.order = omega (arith, laws.bounded.low) in
    c.from_code.ensures.means ∙ ap (λ m. R.value (F.at (c.args.n % m))) q
    ∙ sym (laws.coded.ones (c.args.n % F.order) (mod-lt c.args.n pos))
    ∙ number_mod R.ring g.met.F.Ring.lawful F.order F.odd F.levels (λ z. R.value (F.at z)) (R.value F.zeta) laws c.args.n
