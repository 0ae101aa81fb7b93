use Rattle.std.proofs.Common.{◌≡◌, ℕ, ◌+◌, ◌-◌, ◌<◌, ◌≤◌, ltb, List, [], ◌∷◌, ◌++◌, length, get_or, take, drop, set, sym, ap, ◌∙◌, ap₂, rules, arith, length-set, length-take}
use lib.ListN.{length-map}
use Rattle.std.specs.List.Sorted.{IsPartitionedBy}
use Rattle.std.proofs.lemmas.List.{get_or-map, map-append, take-map, drop-map, take_all, take_more_set}
use Rattle.std.proofs.lemmas.List.Sorted.{IsPartitionPoint-from_clause}
use Rattle.std.proofs.lemmas.Bool.{ltb-true, ltb-false, lt-ltb}
use Rattle.roots.specs.Roots.{codes}
use Rattle.roots.specs.declared.record.RootRecord.{RootRecord}
use Rattle.roots.proofs.Inserting.{ascending_get, put_at, last_moved}
use Rattle.roots.proofs.found.place.Goals as goal

pub returns : goal.returns
returns c =
    let roots = c.args.roots.now in
    let last = length roots - 1 in
    let xs : List RootRecord = take last roots in
    let b : ℕ = c.args.code.0 in
    let x : RootRecord = record { code = c.args.code; multiplicity = 0 } in
    let at : ℕ = c.partition_point-at.result in
    let long : length xs ≡ last = omega (arith, length-take last roots) in
    let count : length (codes xs) ≡ length xs = length-map xs (λ r. r.code.0) in
    let split : set roots last x ≡ xs ++ (x ∷ []) = sym (take_all (last + 1) (set roots last x) (omega (arith, length-set roots last x))) ∙ take_more_set roots last x (omega arith) in
    let code_at : (k : ℕ) (d : RootRecord) → k < length xs → get_or (codes xs) k 0 ≡ (get_or xs k d).code.0 = λ k d h. get_or-map (λ r. r.code.0) xs k d 0 h in
    let parted : IsPartitionedBy (λ (r : RootRecord). ltb r.code.0 b) xs = λ i j d le h e.
    lt-ltb (get_or xs i d).code.0 b (let lt : (get_or xs j d).code.0 < b = ltb-true (get_or xs j d).code.0 b e in
    omega (arith, ascending_get (codes xs) c.requires.ascending i j le (omega arith), code_at i d (omega arith), code_at j d h)) in
    let point = IsPartitionPoint-from_clause (λ (r : RootRecord). ltb r.code.0 b) xs at c.partition_point-at.ensures.partitioned parted (λ a r q k. search rules) in
    let low : (k : ℕ) → k < at → get_or (codes xs) k 0 < b = λ k h.
    (let lt : (get_or xs k x).code.0 < b = ltb-true (get_or xs k x).code.0 b (point.0 k x (omega arith) h) in omega (arith, code_at k x (omega (arith, c.partition_point-at.ensures.bound)))) in
    let high : (k : ℕ) → at ≤ k → k < length (codes xs) → b ≤ get_or (codes xs) k 0 = λ k le h.
    (let ge : b ≤ (get_or xs k x).code.0 = ltb-false (get_or xs k x).code.0 b (point.1 k x le (omega arith)) in omega (arith, code_at k x (omega arith))) in
    let inside : at ≤ length xs = c.partition_point-at.ensures.bound in
    ap codes (last_moved (set roots last x) xs c.rotate_right.new.self x at split inside c.rotate_right.ensures.after)
    ∙ map-append (λ r. r.code.0) (take at xs) (x ∷ drop at xs)
    ∙ ap₂ (λ p q. p ++ (b ∷ q)) (sym (take-map (λ r. r.code.0) at xs)) (sym (drop-map (λ r. r.code.0) at xs))
    ∙ sym (put_at b (codes xs) at (omega arith) low high c.requires.ascending)
