use Rattle.std.proofs.Common.{◌≡◌, ◌<◌, ℕ, ◌+◌, Bool, true, false, ◌&&◌, ◌||◌, nat_le, nat_lt, List, length, slice_index_or, arith}
use Rattle.std.proofs.lemmas.Bool.Decides.{nat_tests}
use Rattle.fws_iv.specs.declared.iv.Iv.{Iv}
use Rattle.fws_iv.specs.Ivs.{in_part}
use Rattle.fws_iv.proofs.Parts.{has_at, regular_at, sooner}
use Rattle.fws_iv.proofs.prefix_list.prefixes.Goals as goal

-- an interval as the numbers from its least to the one before its end
as_range : (x : Iv) (from last v : ℕ) → from ≡ x.lo → last ≡ x.hi → (nat_le from v && nat_lt v (last + 1)) ≡ in_part x v
as_range x from last v lo hi = grind (arith, nat_tests)

-- the first of what is left was put
put_first : (made grown part left rest first all : Bool) → (made || left) ≡ all → left ≡ (first || rest) → grown ≡ (made || part) → part ≡ first → (grown || rest) ≡ all
put_first true grown part left rest first all h e g s = cc
put_first false grown part left rest first all h e g s = cc

pub loop-part-preserved : goal.loop-part-preserved
loop-part-preserved c =
    let parts : List Iv = c.parts-part-items.result.now in
    let i : ℕ = c.loop-part.part-index in
    let none : Iv = record { lo = 0; hi = 0 } in
    let inside : i < length parts = c.loop-part-test.true in
    let lo : c.from.result ≡ (slice_index_or parts i none).lo = c.from.ensures in
    let hi : c.from-in-loop-part.result ≡ (slice_index_or parts i none).hi = c.from-in-loop-part.ensures in
    let kept = c.loop-part.invariant in
    let done = c.in_ok-put_range.ensures in
    let here = regular_at _ parts i none inside kept.rest in
    record {
      sound = done.ends.sound;
      ascending = done.ends.ascending;
      rest = sooner _ _ _ (omega (arith, done.ends.room, hi)) here.2;
      members = λ v. put_first _ _ _ _ _ _ _ (kept.members v) (has_at parts i none v inside) (done.members v) (as_range (slice_index_or parts i none) _ _ v lo hi);
      few = omega (arith, done.few);
    }
