use Rattle.std.proofs.Common.{◌≡◌, ℕ, zero, suc, ◌+◌, ◌*◌, ◌≤◌, List, [], ◌∷◌, ◌++◌, drop, get_or, replicate, Ok, sym, ap, ◌∙◌, subst, refl, arith}
use Rattle.std.proofs.lemmas.List.{length-take-le, get_or-drop}
use Rattle.algebra.specs.Refusals.{accepted}
use Rattle.tally.specs.Access.{code_at}
use Rattle.tally.specs.Bodies.{contents, element}
use Rattle.sheet.specs.declared.fault.SheetFault.TheVariants.{Frame, Sums, Job}
use Rattle.sheet.specs.Sheets.{sums_items, reading}
use Rattle.sheet.specs.Sections.{SumsTold}
use Rattle.sheet.specs.Reads.{Taken}
use Rattle.sheet.proofs.Readings.{sheet_exits, reading_frame, reading_sums, reading_name, reading-all, taken_all}
use Rattle.sheet.proofs.Laws.{refused_laws, both_laws}
use Rattle.sheet.proofs.read.read.Goals as goal

-- filling a row up with z leaves what it has at each place, z where it ends
all_z : {X : Type 0} (z : X) (m k : ℕ) → get_or (replicate m z) k z ≡ z
all_z z zero k = refl
all_z z (suc m) zero = refl
all_z z (suc m) (suc k) = all_z z m k

filled_up : {X : Type 0} (z : X) (xs : List X) (n m k : ℕ) → get_or (xs ++ drop n (replicate m z)) k z ≡ get_or xs k z
filled_up z [] n m k = get_or-drop n (replicate m z) k z ∙ all_z z m (n + k)
filled_up z (x ∷ xs) n m zero = refl
filled_up z (x ∷ xs) n m (suc k) = filled_up z xs n m k

pub returns-in_err-frame : goal.returns-in_err-frame
returns-in_err-frame g c =
    let q = g.F.Field.order in
    let bs = c.args.bytes.now in
    let e = c.in_err-frame.field-0.0 in
    let r = c.from_residual.result in
    let told = rw (c.size-order.ensures.answer, c.new-reader.ensures.bytes) at c.in_err-frame.ensures.answers in
    let answers = sheet_exits (Frame e) (reading q bs) r c.from_residual.ensures.1 (reading_frame q bs e.0 told) in
    let laws = refused_laws g.F.Ring.ring q (element g.F.Ring g.F.Field) bs (contents g.F.Ring c.args.tally.now) c.size-order.ensures.bounded (λ _. c.args.tally.now ≡ c.args.tally.now) (λ _. refl) r c.from_residual.ensures.0 answers in
    record { answers = answers; taken = laws.0; back = laws.1; logged = laws.2 }

pub returns-in_err-sums : goal.returns-in_err-sums
returns-in_err-sums g c =
    let q = g.F.Field.order in
    let bs = c.args.bytes.now in
    let n = c.count.result in
    let f = c.in_ok-frame.frame in
    let t = c.in_ok-frame.turnover in
    let e = c.in_err-sums.field-0.0 in
    let r = c.from_residual-in_err-sums.result in
    let is = c.size-order.ensures.answer in
    let begun = c.new-reader.ensures.bytes in
    let head = rw (is, begun) at c.in_ok-frame.ensures.answers.1 in
    let many = length-take-le n _ (omega (arith, c.count.ensures, f.ok)) in
    let told = rw (is, c.frame.ensures.same, begun) at (c.in_err-sums.ensures.answers ∙ ap (λ m. sums_items c.size-order.result m c.frame.new.self.bytes.now) many) in
    let answers = sheet_exits (Sums e) (reading q bs) r c.from_residual-in_err-sums.ensures.1 (reading_sums q bs f.width f.spare t n head c.count.ensures e.0 told) in
    let laws = refused_laws g.F.Ring.ring q (element g.F.Ring g.F.Field) bs (contents g.F.Ring c.args.tally.now) c.size-order.ensures.bounded (λ _. c.args.tally.now ≡ c.args.tally.now) (λ _. refl) r c.from_residual-in_err-sums.ensures.0 answers in
    record { answers = answers; taken = laws.0; back = laws.1; logged = laws.2 }

pub returns-in_err-name : goal.returns-in_err-name
returns-in_err-name g c =
    let q = g.F.Field.order in
    let bs = c.args.bytes.now in
    let n = c.count.result in
    let f = c.in_ok-frame.frame in
    let t = c.in_ok-frame.turnover in
    let codes = c.sums.new.codes in
    let e = c.in_err-name.field-0.0 in
    let r = c.from_residual-in_err-name.result in
    let is = c.size-order.ensures.answer in
    let begun = c.new-reader.ensures.bytes in
    let head = rw (is, begun) at c.in_ok-frame.ensures.answers.1 in
    let many = length-take-le n _ (omega (arith, c.count.ensures, f.ok)) in
    let sums = rw (is, c.frame.ensures.same, begun) at (subst (λ m. SumsTold c.size-order.result m c.frame.new.self.bytes.now (code_at codes)) many c.in_ok-sums.ensures.answers.1) in
    let place : c.sums.new.self.place ≡ 24 + 4 * n = c.in_ok-sums.ensures.answers.0 ∙ ap (λ m. 24 + 4 * m) many in
    let told = rw (place, c.sums.ensures.same, c.frame.ensures.same, begun) at c.in_err-name.ensures.answers in
    let answers = sheet_exits (Job e) (reading q bs) r c.from_residual-in_err-name.ensures.1 (reading_name q bs f.width f.spare t n head c.count.ensures (code_at codes) sums e.0 told) in
    let laws = refused_laws g.F.Ring.ring q (element g.F.Ring g.F.Field) bs (contents g.F.Ring c.args.tally.now) c.size-order.ensures.bounded (λ _. c.args.tally.now ≡ c.args.tally.now) (λ _. refl) r c.from_residual-in_err-name.ensures.0 answers in
    record { answers = answers; taken = laws.0; back = laws.1; logged = laws.2 }

pub returns : goal.returns
returns g c =
    let q = g.F.Field.order in
    let at = element g.F.Ring g.F.Field in
    let bs = c.args.bytes.now in
    let n = c.count.result in
    let f = c.in_ok-frame.frame in
    let t = c.in_ok-frame.turnover in
    let codes = c.sums.new.codes in
    let name = c.in_ok-name.name in
    let end = c.name.new.self.place in
    let k = contents g.F.Ring c.restore.new.self in
    let is = c.size-order.ensures.answer in
    let some : 1 ≤ q = omega (arith, c.size-order.ensures.bounded) in
    let begun = c.new-reader.ensures.bytes in
    let head = rw (is, begun) at c.in_ok-frame.ensures.answers.1 in
    let many = length-take-le n _ (omega (arith, c.count.ensures, f.ok)) in
    let sums = rw (is, c.frame.ensures.same, begun) at (subst (λ m. SumsTold c.size-order.result m c.frame.new.self.bytes.now (code_at codes)) many c.in_ok-sums.ensures.answers.1) in
    let place : c.sums.new.self.place ≡ 24 + 4 * n = c.in_ok-sums.ensures.answers.0 ∙ ap (λ m. 24 + 4 * m) many in
    let names = rw (place, c.sums.ensures.same, c.frame.ensures.same, begun) at c.in_ok-name.ensures.answers in
    let rest = rw (c.name.ensures.same, c.sums.ensures.same, c.frame.ensures.same, begun) at c.rest.ensures in
    let answers : accepted ≡ reading q bs = reading-all q bs f.width f.spare t n head c.count.ensures (code_at codes) sums name.now end names in
    let taken : Taken q at bs name.now c.rest.result.now k =
    subst (λ x. Taken q at bs name.now x k) (sym rest) (taken_all q bs f.width f.spare t n head c.count.ensures (code_at codes) sums name.now end names at k some
    (ap (λ x. x.width) c.restore.ensures.framed) (ap (λ x. x.spare) c.restore.ensures.framed) c.restore.ensures.turned (λ i h. c.restore.ensures.sums i h ∙ ap (λ x. at x.0) (filled_up (record { 0 = 0 }) codes n 96 i))) in
    let laws = both_laws g.F.Ring.ring q at bs k c.size-order.ensures.bounded (λ _. k ≡ k) (Ok (name, c.rest.result)) answers taken in
    record { answers = answers; taken = taken; back = laws.0; logged = laws.1 }
