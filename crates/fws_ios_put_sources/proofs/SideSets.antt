-- Interfaces by the side on which they stand.
use Rattle.std.proofs.Common.{◌≡◌, ℕ, zero, suc, ◌+◌, ◌-◌, ◌<◌, ◌≤◌, Bool, true, false, ◌^◌, ◌&&◌, ◌||◌, not, nat_eq, cond, length, refl, sym, ◌∙◌, ap, arith}
use Rattle.std.proofs.lemmas.Bool.{and_from, eq-eqb, false≢true, lt-ltb, ltb-false, ltb-true, ne_eqb, or_right}
use Rattle.std.proofs.lemmas.Option.{slice_get_past}
use Rattle.std.proofs.lemmas.Bool.Decides.{nat_tests}
use Rattle.std.proofs.Math.Bool.{and-true}
use Rattle.std.specs.Option.{option_map_or}
use Rattle.std.specs.Prelude.{nat_le, nat_lt, slice_get}
use Rattle.fws_net.specs.declared.site.Side.TheVariants.{Neither}
use Rattle.fws_net.specs.declared.site.Iface.{Iface}
use Rattle.fws_net.specs.declared.site.Site.{Site}
use Rattle.fws_net.specs.declared.exit.Exit.TheVariants.{Deliver, Out, Lost}
use Rattle.fws_net.specs.Routes.{exit_at, is_local, route_of}
use Rattle.fws_ios_put_sources.specs.Crossing.{is_outside_route, is_sent_outside}
use Rattle.fws_ios_put_sources.specs.Sources.{is_on}
use Rattle.fws_place.specs.Rewritings.{is_inside, leaves_outside, side_of}

-- the host and loopback stand on neither side
pub low_side : (site : Site) (n : ℕ) (o : Bool) → n < 2 → false ≡ is_on o (side_of site n)
low_side site zero true lt = refl
low_side site zero false lt = refl
low_side site (suc zero) true lt = refl
low_side site (suc zero) false lt = refl
low_side site (suc (suc n)) o lt = absurd (omega arith)

pub side_at : (site : Site) (n : ℕ) → 2 ≤ n → side_of site n ≡ option_map_or (λ (face : Iface). face.side) (slice_get site.faces (n - 2)) Neither
side_at site zero le = absurd (omega arith)
side_at site (suc zero) le = absurd (omega arith)
side_at site (suc (suc n)) le =
    let e : n ≡ suc (suc n) - 2 = omega arith in
    ap (λ k. option_map_or (λ (face : Iface). face.side) (slice_get site.faces k) Neither) e

-- neither do numbers that no interface has
high_side : (site : Site) (n : ℕ) (o : Bool) → length site.faces + 2 ≤ n → is_on o (side_of site n) ≡ false
high_side site n o le =
    let two : 2 ≤ n = omega arith in
    let out : length site.faces ≤ n - 2 = omega arith in
    ap (is_on o) (side_at site n two ∙ ap (λ f. option_map_or (λ (face : Iface). face.side) f Neither) (slice_get_past site.faces (n - 2) out)) ∙ neither o
  where
    neither : (b : Bool) → is_on b Neither ≡ false
    neither true = refl
    neither false = refl

-- so the numbers below are enough
pub all_below : (site : Site) (n : ℕ) (o : Bool) → (nat_lt n (length site.faces + 2) && is_on o (side_of site n)) ≡ is_on o (side_of site n)
all_below site n o = by (nat_lt n (length site.faces + 2)) refl
  where
    by : (b : Bool) → nat_lt n (length site.faces + 2) ≡ b → (b && is_on o (side_of site n)) ≡ is_on o (side_of site n)
    by true e = refl
    by false e = sym (high_side site n o (ltb-false n (length site.faces + 2) e))

-- ---- tests

below_more : (k n : ℕ) → n < k → nat_lt n (k + 1) ≡ true
below_more k n lt = grind (arith, nat_tests)

below_not : (k n : ℕ) → n < k → nat_le k n ≡ false
below_not k n lt = grind (arith, nat_tests)

here_low : (k n : ℕ) → n ≡ k → nat_le k n ≡ true
here_low k n e = grind (arith, nat_tests)

here_high : (k n : ℕ) → n ≡ k → nat_le n k ≡ true
here_high k n e = grind (arith, nat_tests)

here_more : (k n : ℕ) → n ≡ k → nat_lt n (k + 1) ≡ true
here_more k n e = grind (arith, nat_tests)

past_not : (k n : ℕ) → k < n → nat_le n k ≡ false
past_not k n lt = grind (arith, nat_tests)

past_more : (k n : ℕ) → k < n → nat_lt n (k + 1) ≡ false
past_more k n lt = grind (arith, nat_tests)

or_none : (h : Bool) → (h || false) ≡ h
or_none true = refl
or_none false = refl

and_none : (b c : Bool) → c ≡ false → (b && c) ≡ false
and_none true c e = e
and_none false c e = refl

-- a number is below another one, that one, or past it
three : (P : Type 0) (k n : ℕ) → (n < k → P) → (n ≡ k → P) → (k < n → P) → P
three P k n below here past = by (nat_lt n k) (nat_lt k n) refl refl
  where
    by : (a b : Bool) → nat_lt n k ≡ a → nat_lt k n ≡ b → P
    by true b e f = below (ltb-true n k e)
    by false true e f = past (ltb-true k n f)
    by false false e f = here (let low : k ≤ n = ltb-false n k e in let high : n ≤ k = ltb-false k n f in omega arith)

-- one more number that passes a test, or doesn't
pub one_put : (P : ℕ → Bool) (k n : ℕ) (h : Bool) → h ≡ (nat_lt n k && P n) → P k ≡ true → (h || (nat_le k n && nat_le n k)) ≡ (nat_lt n (k + 1) && P n)
one_put P k n h e p =
    three ((h || (nat_le k n && nat_le n k)) ≡ (nat_lt n (k + 1) && P n)) k n
    (λ lt. ap (λ b. h || (b && nat_le n k)) (below_not k n lt) ∙ or_none h ∙ e ∙ ap (λ a. a && P n) (lt-ltb n k lt) ∙ sym (ap (λ d. d && P n) (below_more k n lt)))
    (λ same. or_right h (nat_le k n && nat_le n k) (and_from (nat_le k n) (nat_le n k) (here_low k n same) (here_high k n same))
    ∙ sym (and_from (nat_lt n (k + 1)) (P n) (here_more k n same) (ap P same ∙ p)))
    (λ gt. ap (λ b. b || (nat_le k n && nat_le n k)) (e ∙ ap (λ a. a && P n) (not_below k n gt)) ∙ and_none (nat_le k n) (nat_le n k) (past_not k n gt)
    ∙ sym (ap (λ d. d && P n) (past_more k n gt)))
  where
    not_below : (k n : ℕ) → k < n → nat_lt n k ≡ false
    not_below k n gt = grind (arith, nat_tests)

pub one_left : (P : ℕ → Bool) (k n : ℕ) (h : Bool) → h ≡ (nat_lt n k && P n) → P k ≡ false → h ≡ (nat_lt n (k + 1) && P n)
one_left P k n h e p =
    e
    ∙ three ((nat_lt n k && P n) ≡ (nat_lt n (k + 1) && P n)) k n
    (λ lt. ap (λ a. a && P n) (lt-ltb n k lt) ∙ sym (ap (λ d. d && P n) (below_more k n lt)))
    (λ same. and_none (nat_lt n k) (P n) (ap P same ∙ p) ∙ sym (and_none (nat_lt n (k + 1)) (P n) (ap P same ∙ p)))
    (λ gt. ap (λ a. a && P n) (not_below k n gt) ∙ sym (ap (λ d. d && P n) (past_more k n gt)))
  where
    not_below : (k n : ℕ) → k < n → nat_lt n k ≡ false
    not_below k n gt = grind (arith, nat_tests)

-- one more range of values of a function
pub one_joined : (P : ℕ → Bool) (k r : ℕ) (w h : Bool) → h ≡ ((nat_lt r k && P r) && w) → P k ≡ true → (h || (nat_eq r k && w)) ≡ ((nat_lt r (k + 1) && P r) && w)
one_joined P k r w h e p =
    three ((h || (nat_eq r k && w)) ≡ ((nat_lt r (k + 1) && P r) && w)) k r
    (λ lt. ap (λ b. h || (b && w)) (apart_eq k r (λ s. omega arith)) ∙ or_none h ∙ e ∙ ap (λ a. (a && P r) && w) (lt-ltb r k lt) ∙ sym (ap (λ d. (d && P r) && w) (below_more k r lt)))
    (λ same. ap (λ b. b || (nat_eq r k && w)) (e ∙ ap (λ a. (a && P r) && w) (not_here k r same)) ∙ ap (λ b. b && w) (eq-eqb r k same)
    ∙ sym (ap (λ d. d && w) (and_from (nat_lt r (k + 1)) (P r) (here_more k r same) (ap P same ∙ p))))
    (λ gt. ap (λ b. b || (nat_eq r k && w)) (e ∙ ap (λ a. (a && P r) && w) (not_below k r gt)) ∙ ap (λ b. b && w) (apart_eq k r (λ s. omega arith))
    ∙ sym (ap (λ d. (d && P r) && w) (past_more k r gt)))
  where
    not_below : (k n : ℕ) → k < n → nat_lt n k ≡ false
    not_below k n gt = grind (arith, nat_tests)

    not_here : (k n : ℕ) → n ≡ k → nat_lt n k ≡ false
    not_here k n e = grind (arith, nat_tests)

    apart_eq : (k n : ℕ) → (n ≡ k → ⊥) → nat_eq n k ≡ false
    apart_eq k n ne = ne_eqb n k ne

-- ---- addresses that are forwarded

-- packets for an address are sent to an interface on the outside, by the numbers below
pub routes_below : (site : Site) (a : ℕ) → ((nat_lt (route_of site a) (length site.faces + 2) && is_on true (side_of site (route_of site a))) && nat_lt a (2 ^ 32)) ≡ is_outside_route site a
routes_below site a = ap (λ b. b && nat_lt a (2 ^ 32)) (all_below site (route_of site a) true)

pub forwarded_none : (site : Site) (a : ℕ) → site.forwarding ≡ false → false ≡ is_sent_outside site a
forwarded_none site a e = sym (ap (λ b. b && (is_outside_route site a && not (is_local site a))) e)

pub forwarded_some : (site : Site) (a : ℕ) (h r l : Bool) → site.forwarding ≡ true → h ≡ (r && not l) → r ≡ is_outside_route site a → l ≡ is_local site a → h ≡ is_sent_outside site a
forwarded_some site a h r l e minus route here =
    minus ∙ ap (λ x. x && not l) route ∙ ap (λ y. is_outside_route site a && not y) here
    ∙ sym (ap (λ b. b && (is_outside_route site a && not (is_local site a))) e)

-- where a packet that arrives for an address leaves to the outside
exit_outside : (site : Site) (d : ℕ) (z l f : Bool) → d < 2 ^ 32 → z ≡ false
    → leaves_outside site (cond z (cond l (Out 1) (Out (route_of site d))) (cond l Deliver (cond f (Out (route_of site d)) Lost))) ≡ (f && (is_outside_route site d && not l))
exit_outside site d true l f low e = absurd (false≢true (sym e))
exit_outside site d false true true low e = sym (and_none (is_outside_route site d) false refl)
exit_outside site d false true false low e = refl
exit_outside site d false false false low e = refl
exit_outside site d false false true low e =
    sym (and-true (is_outside_route site d) ∙ ap (λ b. is_on true (side_of site (route_of site d)) && b) (lt-ltb d (2 ^ 32) low)
    ∙ and-true (is_on true (side_of site (route_of site d))))

pub crossed : (site : Site) (n d : ℕ) → d < 2 ^ 32 → (is_on false (side_of site n) && is_sent_outside site d) ≡ (is_inside (side_of site n) && leaves_outside site (exit_at site n d))
crossed site zero d low = refl
crossed site (suc zero) d low = refl
crossed site (suc (suc n)) d low =
    ap (λ b. is_inside (side_of site (suc (suc n))) && b)
    (sym (exit_outside site d (nat_eq (suc (suc n)) 0) (is_local site d) site.forwarding low (ne_eqb (suc (suc n)) 0 (λ e. omega arith))))
