use Rattle.std.proofs.Common.{◌≡◌, ◌≤◌, ◌-◌, ◌^◌, ℕ, Bool, false, ◌&&◌, Some, List, sym, ◌∙◌, subst, arith}
use Rattle.std.proofs.lemmas.Result.{IfOk-weaker}
use Rattle.std.specs.Prelude.{nat_eq, slice_index, if◌then◌else◌}
use Rattle.fws_iv.specs.declared.iv.Iv.{Iv}
use Rattle.fws_iv.specs.Ivs.{has}
use Rattle.fws_box.specs.Sides.{IsWithin}
use Rattle.fws_net.specs.Points.{tops_of}
use Rattle.fws_tree.specs.Plain.{Plain, value}
use Rattle.fws_place.specs.ByAck.{is_found}
use Rattle.fws_place.specs.Kept.{IsKeptWhere}
use Rattle.fws_place.proofs.ByAcks.{kept_twice, one_is}
use Rattle.fws_place.proofs.PairPoints.{within_top}
use Rattle.fws_place.proofs.ack_ahead.found_in.Goals as goal

pub returns-clause-value : goal.returns-clause-value
returns-clause-value c =
    let site = c.args.site.now in
    let tops : List ℕ = tops_of site in
    let tree = c.args.tree.now in
    let addrs : List Iv = c.in_ok-found_set.field-0 in
    let protocols : List Iv = c.in_ok-one.field-0 in
    let found = c.in_ok-found.found in
    let whole : found.0 ≡ tops = c.in_ok-found.ensures.tops ∙ c.requires in
    let P : List ℕ × Plain Bool → Type 0 = λ t. (q : List ℕ) → IsWithin found.0 q → value t.1 q ≡ (if has protocols (slice_index q 1) then value found.1 q else Some false) in
    let Q : List ℕ × Plain Bool → Type 0 = λ t. IsKeptWhere tops (λ q. nat_eq (slice_index q 1) 6 && is_found site (slice_index q 2)) tree.1 t.1 in
    IfOk-weaker c.kept_in-2.result P Q
    (λ t h q w.
    let low : slice_index q 2 ≤ 2 ^ 32 - 1 = within_top tops q 2 w (omega arith) in
    kept_twice (nat_eq (slice_index q 1) 6) (is_found site (slice_index q 2)) (has protocols (slice_index q 1)) (has addrs (slice_index q 2)) (value tree.1 q) (value found.1 q) (value t.1 q)
    (one_is 6 protocols (slice_index q 1) c.in_ok-one.ensures) (c.in_ok-found_set.ensures (slice_index q 2) (omega (arith, low)))
    (c.in_ok-found.ensures.value q (subst (λ (ts : List ℕ). IsWithin ts q) (sym c.requires) w)) (h q (subst (λ (ts : List ℕ). IsWithin ts q) (sym whole) w)))
    c.kept_in-2.ensures.value
