-- Addresses that are spelled and read.
use Rattle.std.proofs.Common.{◌≡◌, ℕ, suc, ◌+◌, ◌*◌, ◌/◌, ◌%◌, ◌^◌, ◌<◌, Bool, true, false, cond, nat_eq, Option, Some, None, option_and_then, List, [], ◌∷◌, ◌++◌, sym, ◌∙◌, ap, refl, arith, append_assoc}
use Rattle.std.proofs.lemmas.Bool.{eqb-true}
use Rattle.std.proofs.lemmas.Bool.Decides.{nat_tests}
use Rattle.std.proofs.Math.Nat.{div-div-eq-div-mul}
use Rattle.std.specs.Fmt.{decimal}
use Rattle.std.specs.List.{list_all}
use Rattle.std.specs.Option.{option_map}
use Rattle.fws_num.specs.Numbers.{is_digit, split_once, octet_of, octet_before_dot, octets_after, quad_of, dotted}
use Rattle.fws_num.proofs.Decimals.{both, octet_of-decimal, octet_of-some, decimal-digits}

some-same : {A : Type 0} (x y : A) → Some x ≡ Some y → x ≡ y
some-same x y h = cc

-- a step that gave something, after one that did
and_then-some : {A B : Type 0} (f : A → Option B) (o : Option A) (b : B) → option_and_then f o ≡ Some b → (x : A) × ((o ≡ Some x) × (f x ≡ Some b))
and_then-some f None b h = cc
and_then-some f (Some x) b h = (x, (refl, h))

map-some : {A B : Type 0} (f : A → B) (o : Option A) (b : B) → option_map f o ≡ Some b → (x : A) × ((o ≡ Some x) × (f x ≡ b))
map-some f None b h = cc
map-some f (Some x) b h = (x, (refl, cc))

-- digits hold no dot, so what stands before the first dot is they
split-digits : (ds rest : List ℕ) → list_all is_digit ds ≡ true → split_once 46 (ds ++ 46 ∷ rest) ≡ Some (ds, rest)
split-digits [] rest h = refl
split-digits (c ∷ cs) rest h =
    let d = both (is_digit c) (list_all is_digit cs) h in
    let no : nat_eq c 46 ≡ false = grind (arith, nat_tests, d.0) in
    rw (no, split-digits cs rest d.1) refl

-- where a text was divided it is joined
joined-at : (b : Bool) (byte c : ℕ) (cs : List ℕ) → (b ≡ true → c ≡ byte) → ((parts : List ℕ × List ℕ) → split_once byte cs ≡ Some parts → cs ≡ parts.0 ++ byte ∷ parts.1)
    → (parts : List ℕ × List ℕ) → cond b (Some ([], cs)) (option_map (λ p. (c ∷ p.0, p.1)) (split_once byte cs)) ≡ Some parts → c ∷ cs ≡ parts.0 ++ byte ∷ parts.1
joined-at true byte c cs e more parts h =
    let same : ([], cs) ≡ parts = some-same ([], cs) parts h in
    rw (← same) (ap (λ (x : ℕ). x ∷ cs) (e refl))
joined-at false byte c cs e more parts h =
    let one = map-some (λ (p : List ℕ × List ℕ). (c ∷ p.0, p.1)) (split_once byte cs) parts h in
    rw (← one.1.1) (ap (λ (l : List ℕ). c ∷ l) (more one.0 one.1.0))

pub split-joined : (byte : ℕ) (text : List ℕ) (parts : List ℕ × List ℕ) → split_once byte text ≡ Some parts → text ≡ parts.0 ++ byte ∷ parts.1
split-joined byte [] parts h = cc
split-joined byte (c ∷ cs) parts h = joined-at (nat_eq c byte) byte c cs (eqb-true c byte) (split-joined byte cs) parts h

-- an octet and a dot
octet-read : (o : ℕ) (rest : List ℕ) → o < 256 → octet_before_dot (decimal o ++ 46 ∷ rest) ≡ Some (o, rest)
unfolding octet_before_dot
octet-read o rest h = rw (split-digits (decimal o) rest (decimal-digits o h), octet_of-decimal o h) refl

octet-spelled : (text : List ℕ) (parts : ℕ × List ℕ) → octet_before_dot text ≡ Some parts → (parts.0 < 256) × (text ≡ decimal parts.0 ++ 46 ∷ parts.1)
unfolding octet_before_dot
octet-spelled text parts h =
    let one = and_then-some (λ (p : List ℕ × List ℕ). option_map (λ (octet : ℕ). (octet, p.1)) (octet_of p.0)) (split_once 46 text) parts h in
    let two = map-some (λ (octet : ℕ). (octet, one.0.1)) (octet_of one.0.0) parts one.1.1 in
    let spelled = octet_of-some one.0.0 two.0 two.1.0 in
    let joined = split-joined 46 text one.0 one.1.0 in
    rw (← two.1.1) (spelled.0, joined ∙ ap (λ (l : List ℕ). l ++ 46 ∷ one.0.1) spelled.1)

-- an octet more is read
octets-step : (v n : ℕ) (text : List ℕ) (parts : ℕ × List ℕ) → octet_before_dot text ≡ Some parts → octets_after v (suc n) text ≡ octets_after (v * 256 + parts.0) n parts.1
octets-step v n text parts h = ap (option_and_then (λ (p : ℕ × List ℕ). octets_after (v * 256 + p.0) n p.1)) h

-- four octets spelled one after another
abbrev spelled : ℕ → ℕ → ℕ → ℕ → List ℕ
spelled p q r s = decimal p ++ 46 ∷ (decimal q ++ 46 ∷ (decimal r ++ 46 ∷ decimal s))

spelled-read : (p q r s : ℕ) → p < 256 → q < 256 → r < 256 → s < 256 → quad_of (spelled p q r s) ≡ Some (((p * 256 + q) * 256 + r) * 256 + s)
unfolding quad_of
spelled-read p q r s hp hq hr hs =
    octets-step 0 2 (spelled p q r s) (p, _) (octet-read p _ hp)
    ∙ octets-step (0 * 256 + p) 1 _ (q, _) (octet-read q _ hq)
    ∙ octets-step ((0 * 256 + p) * 256 + q) 0 _ (r, _) (octet-read r _ hr)
    ∙ ap (option_map (λ (octet : ℕ). (((0 * 256 + p) * 256 + q) * 256 + r) * 256 + octet)) (octet_of-decimal s hs)
    ∙ ap Some (omega arith)

-- what an octet that was read was spelled as, and what goes on behind it
record Octet (v n : ℕ) (text : List ℕ) (a : ℕ) : Type 0 where
  octet : ℕ
  rest : List ℕ
  small : octet < 256
  text_is : text ≡ decimal octet ++ 46 ∷ rest
  goes_on : octets_after (v * 256 + octet) n rest ≡ Some a

octet-first : (v n : ℕ) (text : List ℕ) (a : ℕ) → octets_after v (suc n) text ≡ Some a → Octet v n text a
octet-first v n text a h =
    let one = and_then-some (λ (p : ℕ × List ℕ). octets_after (v * 256 + p.0) n p.1) (octet_before_dot text) a h in
    let spelled = octet-spelled text one.0 one.1.0 in
    record { octet = one.0.0; rest = one.0.1; small = spelled.0; text_is = spelled.1; goes_on = one.1.1 }

-- an address that was read, by its octets
record Octets (text : List ℕ) (a : ℕ) : Type 0 where
  p : ℕ
  q : ℕ
  r : ℕ
  s : ℕ
  p_in : p < 256
  q_in : q < 256
  r_in : r < 256
  s_in : s < 256
  value : a ≡ ((p * 256 + q) * 256 + r) * 256 + s
  text_is : text ≡ spelled p q r s

rests-joined : (p q r s : ℕ) (text second third fourth : List ℕ) → text ≡ decimal p ++ 46 ∷ second → second ≡ decimal q ++ 46 ∷ third → third ≡ decimal r ++ 46 ∷ fourth → fourth ≡ decimal s
    → text ≡ spelled p q r s
rests-joined p q r s text second third fourth d e f g = rw (d, e, f, g) refl

read-spelled : (text : List ℕ) (a : ℕ) → quad_of text ≡ Some a → Octets text a
unfolding quad_of
read-spelled text a h =
    let one = octet-first 0 2 text a h in
    let two = octet-first (0 * 256 + one.octet) 1 one.rest a one.goes_on in
    let three = octet-first ((0 * 256 + one.octet) * 256 + two.octet) 0 two.rest a two.goes_on in
    let v = ((0 * 256 + one.octet) * 256 + two.octet) * 256 + three.octet in
    let four = map-some (λ (octet : ℕ). v * 256 + octet) (octet_of three.rest) a three.goes_on in
    let last = octet_of-some three.rest four.0 four.1.0 in
    record {
      p = one.octet;
      q = two.octet;
      r = three.octet;
      s = four.0;
      p_in = one.small;
      q_in = two.small;
      r_in = three.small;
      s_in = last.0;
      value = omega (arith, four.1.1);
      text_is = rests-joined one.octet two.octet three.octet four.0 text one.rest two.rest three.rest one.text_is two.text_is three.text_is last.1;
    }

regrouped : (x y z w : List ℕ) → ((x ++ 46 ∷ y) ++ 46 ∷ z) ++ 46 ∷ w ≡ x ++ 46 ∷ (y ++ 46 ∷ (z ++ 46 ∷ w))
regrouped x y z w = simp append_assoc

dotted-spelled : (a : ℕ) → dotted a ≡ spelled (a / 2 ^ 24) (a / 2 ^ 16 % 256) (a / 2 ^ 8 % 256) (a % 256)
dotted-spelled a = regrouped (decimal (a / 2 ^ 24)) (decimal (a / 2 ^ 16 % 256)) (decimal (a / 2 ^ 8 % 256)) (decimal (a % 256))

-- the octets of an address
octets-value : (a : ℕ) → ((a / 2 ^ 24 * 256 + a / 2 ^ 16 % 256) * 256 + a / 2 ^ 8 % 256) * 256 + a % 256 ≡ a
octets-value a = omega (arith, div-div-eq-div-mul a 256 256, div-div-eq-div-mul a 65536 256)

octets-are : (p q r s a : ℕ) → p < 256 → q < 256 → r < 256 → s < 256 → a ≡ ((p * 256 + q) * 256 + r) * 256 + s
    → (a < 2 ^ 32) × (a / 2 ^ 24 ≡ p) × (a / 2 ^ 16 % 256 ≡ q) × (a / 2 ^ 8 % 256 ≡ r) × (a % 256 ≡ s)
octets-are p q r s a hp hq hr hs e = (omega arith, omega arith, omega arith, omega arith, omega arith)

pub quad_of-dotted : (a : ℕ) → a < 2 ^ 32 → quad_of (dotted a) ≡ Some a
quad_of-dotted a h =
    let first : a / 2 ^ 24 < 256 = omega arith in
    let second : a / 2 ^ 16 % 256 < 256 = omega arith in
    let third : a / 2 ^ 8 % 256 < 256 = omega arith in
    let fourth : a % 256 < 256 = omega arith in
    ap quad_of (dotted-spelled a) ∙ spelled-read (a / 2 ^ 24) (a / 2 ^ 16 % 256) (a / 2 ^ 8 % 256) (a % 256) first second third fourth ∙ ap Some (octets-value a)

pub dotted-quad_of : (text : List ℕ) (a : ℕ) → quad_of text ≡ Some a → (a < 2 ^ 32) × (text ≡ dotted a)
dotted-quad_of text a h =
    let o = read-spelled text a h in
    let n = octets-are o.p o.q o.r o.s a o.p_in o.q_in o.r_in o.s_in o.value in
    (n.0, o.text_is ∙ sym (dotted-spelled a ∙ rw (n.1, n.2, n.3, n.4) refl))
