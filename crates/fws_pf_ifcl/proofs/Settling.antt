-- Packets up to their verdict: where a pass ends accepted it doesn't matter any more.
use Rattle.std.proofs.Common.{◌≡◌, Bool, true, false, cond, Option, Some, None, option_map, refl, sym, ap}
use Rattle.fws_net.specs.declared.transit.Transit.{Transit}
use Rattle.fws_net.specs.Transits.{with_verdict, decided}
use Rattle.fws_ifcl.specs.declared.step.ChainEnd.{ChainEnd}
use Rattle.fws_ifcl.specs.Walk.{stage_end}

-- a packet that is accepted
abbrev pub settled : Option Transit → Option Transit
settled o = option_map (with_verdict true) o

-- what becomes of a packet behind a stage's chain
abbrev pub left : ChainEnd → Option Transit
left end = settled (stage_end end)

-- a test in front of two ends
pub left_by : (b : Bool) (x y : ChainEnd) → left (cond b x y) ≡ cond b (left x) (left y)
left_by true x y = refl
left_by false x y = refl

-- a test in front of two packets
pub settled_by : (b : Bool) (x y : Option Transit) → cond b (settled x) (settled y) ≡ settled (cond b x y)
settled_by true x y = refl
settled_by false x y = refl

-- a packet that is accepted is settled
pub is_settled : (t : Transit) → t.verdict ≡ true → settled (Some t) ≡ Some t
is_settled t is =
    let same : with_verdict true t ≡ t = ap (λ v. with_verdict v t) (sym is) in
    ap Some same

-- one of two packets is settled
pub either : (b : Bool) (x y : Option Transit) → settled x ≡ x → settled y ≡ y → settled (cond b x y) ≡ cond b x y
either true x y first second = first
either false x y first second = second

-- so is one that the verdict so far accepts
pub decided_settled : (t : Transit) → settled (decided t) ≡ decided t
decided_settled t = by_verdict t.verdict refl
  where
    by_verdict : (v : Bool) → t.verdict ≡ v → settled (cond v (Some t) None) ≡ cond v (Some t) None
    by_verdict true is = is_settled t is
    by_verdict false is = refl
