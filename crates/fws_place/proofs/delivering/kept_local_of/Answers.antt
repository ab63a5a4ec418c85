use Rattle.std.proofs.Common.{◌≡◌, ℕ, Bool, ◌≤◌, true, false, List, length, arith, subst}
use Rattle.fws_iv.specs.declared.iv.Iv.{Iv}
use Rattle.fws_iv.specs.Ivs.{has}
use Rattle.fws_place.specs.Delivered.{is_kept_local}
use Rattle.fws_place.proofs.LocalWritten.{part_has, parts_all, parts_more}
use Rattle.fws_place.proofs.delivering.kept_local_of.Goals as goal

pub returns : goal.returns
returns c =
    let parts = c.parts-part-items.result.now in
    let test : ℕ → Bool = is_kept_local c.args.local.now c.args.addr c.args.size in
    let le : length parts ≤ c.loop-part.part-index = omega arith in
    subst (λ (s : List Iv). (d : ℕ) → has s d ≡ true → test d ≡ false) c.parts-part-items.ensures.value (parts_all test parts c.loop-part.part-index le c.loop-part.invariant)

pub loop-part-preserved : goal.loop-part-preserved
loop-part-preserved c =
    let parts : List Iv = c.parts-part-items.result.now in
    let test : ℕ → Bool = is_kept_local c.args.local.now c.args.addr c.args.size in
    let none : Iv = record { lo = 0; hi = 0 } in
    parts_more test parts c.loop-part.part-index none c.loop-part-test.true c.loop-part.invariant c.in_default.ensures

pub returns-in-Some : goal.returns-in-Some
returns-in-Some c =
    let parts : List Iv = c.parts-part-items.result.now in
    let none : Iv = record { lo = 0; hi = 0 } in
    let is = c.in-Some.ensures in
    let there : has parts c.in-Some.d ≡ true = part_has parts c.loop-part.part-index none c.in-Some.d c.loop-part-test.true is.0 is.1 in
    (is.3, subst (λ (s : List Iv). has s c.in-Some.d ≡ true) c.parts-part-items.ensures.value there, is.2)
