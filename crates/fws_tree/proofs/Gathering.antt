-- Kids that grow piece by piece.
use Rattle.std.proofs.Common.{◌≡◌, ℕ, zero, suc, ◌+◌, ◌<◌, ◌≤◌, Bool, true, false, ◌&&◌, ◌||◌, cond, List, [], ◌∷◌, ◌++◌, ◌⊎◌, inl, inr, length, get_or, set, map, take, All, Contains, Some, None, slice_get, nat_lt, nat_le, refl, sym, ◌∙◌, ap, subst, arith}
use Rattle.std.proofs.lemmas.Bool.{cases_Bool, both_ways, leb-true, ltb-true, le-leb, or_cases, or_left, or_right, and_from, and_parts}
use Rattle.std.proofs.lemmas.Bool.Decides.{nat_tests}
use Rattle.std.proofs.lemmas.List.{take_all, take_more, length-map, map_push, get_or-map, map-set, set-get_or}
use Rattle.std.proofs.lemmas.List.Elements.{All-push, Contains-push, Contains-append_left, Contains-get_or}
use Rattle.std.proofs.lemmas.Option.{slice_get_within, get_or_from_slice_get}
use Rattle.std.specs.List.{AllByRecursion}
use Rattle.fws_iv.specs.declared.iv.Iv.{Iv}
use Rattle.fws_iv.specs.Ivs.{has, IsRegular}
use Rattle.fws_tree.specs.Building.{AreDifferent, kid_hits, IsLeast, LeastsRise, HasKid, AreKidsTo, end_of}
use Rattle.fws_tree.proofs.Pieces.{end_of-push}
use Rattle.fws_tree.specs.declared.join.Piece.{Piece}
use Rattle.fws_tree.specs.declared.node.Kid.{Kid}

-- the numbers from lo to hi, as a test
abbrev pub between : ℕ → ℕ → ℕ → Bool
between lo hi v = nat_le lo v && nat_le v hi

-- Hits.

kid_hits-push : (ks : List Kid) (k : Kid) (x : ℕ) → kid_hits (ks ++ k ∷ []) x ≡ kid_hits ks x + cond (has k.set x) 1 0
kid_hits-push [] k x = omega arith
kid_hits-push (j ∷ ks) k x = omega (arith, kid_hits-push ks k x)

grown_bit : (a b c : Bool) → c ≡ (a || b) → (a ≡ true → b ≡ false) → cond c 1 0 ≡ cond a 1 0 + cond b 1 0
grown_bit true true c e h = absurd (both_ways true (h refl) refl)
grown_bit true false c e h = rw e (omega arith)
grown_bit false true c e h = rw e (omega arith)
grown_bit false false c e h = rw e (omega arith)

kid_hits-set : (ks : List Kid) (i : ℕ) (k d : Kid) (x : ℕ) (b : Bool) → i < length ks → has k.set x ≡ (has (get_or ks i d).set x || b)
    → (has (get_or ks i d).set x ≡ true → b ≡ false) → kid_hits (set ks i k) x ≡ kid_hits ks x + cond b 1 0
kid_hits-set [] i k d x b lt e h = absurd (omega arith)
kid_hits-set (j ∷ ks) zero k d x b lt e h = omega (arith, grown_bit (has j.set x) b (has k.set x) e h)
kid_hits-set (j ∷ ks) (suc i) k d x b lt e h = omega (arith, kid_hits-set ks i k d x b (omega arith) e h)

hit_at : (ks : List Kid) (i : ℕ) (d : Kid) (x : ℕ) → i < length ks → has (get_or ks i d).set x ≡ true → 1 ≤ kid_hits ks x
hit_at [] i d x lt e = absurd (omega arith)
hit_at (j ∷ ks) zero d x lt e = rw e (omega arith)
hit_at (j ∷ ks) (suc i) d x lt e = omega (arith, hit_at ks i d x (omega arith) e)

below_end : (end x : ℕ) (n : ℕ) → n ≡ cond (nat_lt x end) 1 0 → 1 ≤ n → x < end
below_end end x n e h = elim (cases_Bool (nat_lt x end)) [
  | inl t ↦ ltb-true x end t
  | inr f ↦ let z : n ≡ 0 = rw f at e in absurd (omega arith)
]

-- a kid has values below the end alone
pub kid_below : (end : ℕ) (ks : List Kid) → AreKidsTo end ks → (i : ℕ) (d : Kid) (x : ℕ) → i < length ks → has (get_or ks i d).set x ≡ true → x < end
kid_below end ks kids i d x lt e = below_end end x (kid_hits ks x) (kids.hits x) (hit_at ks i d x lt e)

more_hits : (lo hi x : ℕ) → lo ≤ hi → cond (nat_lt x (hi + 1)) 1 0 ≡ cond (nat_lt x lo) 1 0 + cond (between lo hi x) 1 0
more_hits lo hi x le = grind (arith, nat_tests)

not_between : (lo hi x : ℕ) → x < lo → between lo hi x ≡ false
not_between lo hi x lt = grind (arith, nat_tests)

between-true : (lo hi x : ℕ) → between lo hi x ≡ true → (lo ≤ x) × (x ≤ hi)
between-true lo hi x h = let p = and_parts (nat_le lo x) (nat_le x hi) h in (leb-true lo x p.0, leb-true x hi p.1)

between-from : (lo hi x : ℕ) → lo ≤ x → x ≤ hi → between lo hi x ≡ true
between-from lo hi x a b = and_from (nat_le lo x) (nat_le x hi) (le-leb lo x a) (le-leb x hi b)

one_part : (lo hi x : ℕ) → has (record { lo = lo; hi = hi } ∷ []) x ≡ between lo hi x
one_part lo hi x = elim (cases_Bool (between lo hi x)) [ inl t ↦ rw (t) refl | inr f ↦ rw (f) refl ]

-- Least values.

rise-push : (ks : List Kid) (k : Kid) (from least : ℕ) → LeastsRise from ks → from ≤ least → ((x : ℕ) → 1 ≤ kid_hits ks x → x ≤ least) → IsLeast k.set least → LeastsRise from (ks ++ k ∷ [])
rise-push [] k from least rise le below is = (least, le, is, tt)
rise-push (j ∷ ks) k from least rise le below is =
    (rise.0, rise.1, rise.2, rise-push ks k rise.0 least rise.3 (below rise.0 (hit_at (j ∷ ks) 0 j rise.0 (omega arith) rise.2.0)) (λ x h. below x (omega arith)) is)

-- a set with more members, all past its own, has the same least
least_grown : (s t : List Iv) (least lo hi : ℕ) → IsLeast s least → ((v : ℕ) → has t v ≡ (has s v || between lo hi v)) → ((v : ℕ) → has s v ≡ true → v < lo) → IsLeast t least
least_grown s t least lo hi is e below = (
  e least ∙ or_left (has s least) (between lo hi least) is.0,
  λ x h. elim (or_cases (has s x) (between lo hi x) (sym (e x) ∙ h)) [ inl a ↦ is.1 x a | inr b ↦ let l = below least is.0 in let p = between-true lo hi x b in omega (arith, p) ],
)

rise-set : (ks : List Kid) (i : ℕ) (k d : Kid) (from lo hi : ℕ) → i < length ks → LeastsRise from ks
    → ((v : ℕ) → has k.set v ≡ (has (get_or ks i d).set v || between lo hi v)) → ((v : ℕ) → has (get_or ks i d).set v ≡ true → v < lo) → LeastsRise from (set ks i k)
rise-set [] i k d from lo hi lt rise e below = absurd (omega arith)
rise-set (j ∷ ks) zero k d from lo hi lt rise e below = (rise.0, rise.1, least_grown j.set k.set rise.0 lo hi rise.2 e below, rise.3)
rise-set (j ∷ ks) (suc i) k d from lo hi lt rise e below = (rise.0, rise.1, rise.2, rise-set ks i k d rise.0 lo hi (omega arith) rise.3 e below)

-- Regular sets.

regular-push : (ks : List Kid) (k : Kid) → AllByRecursion (λ k. IsRegular k.set) ks → IsRegular k.set → AllByRecursion (λ k. IsRegular k.set) (ks ++ k ∷ [])
regular-push [] k h r = (r, tt)
regular-push (j ∷ ks) k h r = (h.0, regular-push ks k h.1 r)

regular-set : (ks : List Kid) (i : ℕ) (k : Kid) → AllByRecursion (λ k. IsRegular k.set) ks → IsRegular k.set → AllByRecursion (λ k. IsRegular k.set) (set ks i k)
regular-set [] i k h r = tt
regular-set (j ∷ ks) zero k h r = (r, h.1)
regular-set (j ∷ ks) (suc i) k h r = (h.0, regular-set ks i k h.1 r)

-- One more piece.

pub kids-none : AreKidsTo 0 []
kids-none = record { regular = tt; hits = λ x. grind (arith, nat_tests); rise = tt }

pub kids-push : (ks : List Kid) (k : Kid) (lo hi : ℕ) → AreKidsTo lo ks → lo ≤ hi → k.set ≡ record { lo = lo; hi = hi } ∷ [] → AreKidsTo (hi + 1) (ks ++ k ∷ [])
kids-push ks k lo hi kids le e =
    let s : (v : ℕ) → has k.set v ≡ between lo hi v = λ v. ap (λ t. has t v) e ∙ one_part lo hi v in
    let least : IsLeast k.set lo = (s lo ∙ between-from lo hi lo (omega arith) le, λ x h. (let p = between-true lo hi x (sym (s x) ∙ h) in omega (arith, p))) in
    let whole : IsRegular k.set = subst (λ t. IsRegular t) (sym e) (omega arith, le, tt) in
    record {
      regular = regular-push ks k kids.regular whole;
      hits = λ x. kid_hits-push ks k x ∙ ap (λ n. n + cond (has k.set x) 1 0) (kids.hits x) ∙ ap (λ b. cond (nat_lt x lo) 1 0 + cond b 1 0) (s x) ∙ sym (more_hits lo hi x le);
      rise = rise-push ks k 0 lo kids.rise (omega arith) (λ x h. (let l = below_end lo x (kid_hits ks x) (kids.hits x) h in omega arith)) least;
    }

pub kids-grow : (ks : List Kid) (i : ℕ) (k d : Kid) (lo hi : ℕ) → AreKidsTo lo ks → lo ≤ hi → i < length ks → IsRegular k.set
    → ((v : ℕ) → has k.set v ≡ (has (get_or ks i d).set v || between lo hi v)) → AreKidsTo (hi + 1) (set ks i k)
kids-grow ks i k d lo hi kids le lt r e =
    let below : (v : ℕ) → has (get_or ks i d).set v ≡ true → v < lo = λ v h. kid_below lo ks kids i d v lt h in
    record {
      regular = regular-set ks i k kids.regular r;
      hits = λ x. kid_hits-set ks i k d x (between lo hi x) lt (e x) (λ h. not_between lo hi x (below x h))
          ∙ ap (λ n. n + cond (between lo hi x) 1 0) (kids.hits x) ∙ sym (more_hits lo hi x le);
      rise = rise-set ks i k d 0 lo hi lt kids.rise e below;
    }

-- Which kid has a value.

pub has_kid-push : (ks : List Kid) (k : Kid) (n x : ℕ) → HasKid ks n x → HasKid (ks ++ k ∷ []) n x
has_kid-push [] k n x h = absurd h
has_kid-push (j ∷ ks) k n x (inl a) = inl a
has_kid-push (j ∷ ks) k n x (inr b) = inr (has_kid-push ks k n x b)

pub has_kid-new : (ks : List Kid) (k : Kid) (n x : ℕ) → k.node ≡ n → has k.set x ≡ true → HasKid (ks ++ k ∷ []) n x
has_kid-new [] k n x e h = inl (e, h)
has_kid-new (j ∷ ks) k n x e h = inr (has_kid-new ks k n x e h)

pub has_kid-grow : (ks : List Kid) (i : ℕ) (k d : Kid) (n x : ℕ) → k.node ≡ (get_or ks i d).node → (has (get_or ks i d).set x ≡ true → has k.set x ≡ true) → HasKid ks n x → HasKid (set ks i k) n x
has_kid-grow [] i k d n x e more h = absurd h
has_kid-grow (j ∷ ks) zero k d n x e more (inl a) = inl (e ∙ a.0, more a.1)
has_kid-grow (j ∷ ks) zero k d n x e more (inr b) = inr b
has_kid-grow (j ∷ ks) (suc i) k d n x e more (inl a) = inl a
has_kid-grow (j ∷ ks) (suc i) k d n x e more (inr b) = inr (has_kid-grow ks i k d n x e more b)

pub has_kid-set : (ks : List Kid) (i : ℕ) (k : Kid) (n x : ℕ) → i < length ks → k.node ≡ n → has k.set x ≡ true → HasKid (set ks i k) n x
has_kid-set [] i k n x lt e h = absurd (omega arith)
has_kid-set (j ∷ ks) zero k n x lt e h = inl (e, h)
has_kid-set (j ∷ ks) (suc i) k n x lt e h = inr (has_kid-set ks i k n x (omega arith) e h)

-- The kid of a node, by the place of the node.

pub part_has : (s : List Iv) (lo hi x : ℕ) → s ≡ record { lo = lo; hi = hi } ∷ [] → lo ≤ x → x ≤ hi → has s x ≡ true
part_has s lo hi x e a b = ap (λ t. has t x) e ∙ one_part lo hi x ∙ between-from lo hi x a b

-- what is known of the kid at the place of a node that is there
pub record IsAtPlace (ks : List Kid) (at n : ℕ) (d : Kid) : Type 0 where
  pub within : at < length ks
  pub node : d.node ≡ n
  pub value : get_or ks at d ≡ d

pub at_place : (ks : List Kid) (old new : List ℕ) (b : Bool) (at n : ℕ) (d : Kid) → old ≡ map (λ k. k.node) ks → new ≡ cond b (old ++ n ∷ []) old → b ≡ false → slice_get new at ≡ Some n
    → d ≡ get_or ks at d → IsAtPlace ks at n d
at_place ks old new b at n d e g f s v =
    let keys : new ≡ old = (rw f at g) in
    let there : slice_get (map (λ k. k.node) ks) at ≡ Some n = ap (λ xs. slice_get xs at) (sym e ∙ sym keys) ∙ s in
    let lt : at < length (map (λ k. k.node) ks) = slice_get_within (map (λ k. k.node) ks) at n there in
    let within : at < length ks = omega (arith, length-map ks (λ k. k.node)) in
    let here : get_or (map (λ k. k.node) ks) at n ≡ n = get_or_from_slice_get (map (λ k. k.node) ks) at n n there in
    record { within = within; node = ap (λ k. k.node) v ∙ sym (get_or-map (λ k. k.node) ks at d n within) ∙ here; value = sym v }

pub nodes_same : (ks : List Kid) (old new : List ℕ) (b : Bool) (at n : ℕ) (d k : Kid) → old ≡ map (λ k. k.node) ks → new ≡ cond b (old ++ n ∷ []) old → b ≡ false → IsAtPlace ks at n d → k.node ≡ d.node
    → new ≡ map (λ k. k.node) (set ks at k)
nodes_same ks old new b at n d k e g f p same =
    let keys : new ≡ old = (rw f at g) in
    keys ∙ e ∙ sym (set-get_or (map (λ k. k.node) ks) at n) ∙ ap (λ m. set (map (λ k. k.node) ks) at m) (get_or-map (λ k. k.node) ks at d n p.within ∙ ap (λ k. k.node) p.value ∙ sym same)
    ∙ sym (map-set (λ k. k.node) ks at k)

-- each member of the grown set
pub set_at : (ks : List Kid) (at n lo hi : ℕ) (d : Kid) (s : List Iv) → IsAtPlace ks at n d → ((v : ℕ) → has s v ≡ (has d.set v || between lo hi v)) → (v : ℕ) → has s v ≡ (has (get_or ks at d).set v || between lo hi v)
set_at ks at n lo hi d s p e v = e v ∙ ap (λ k. has k.set v || between lo hi v) (sym p.value)

pub below_here : (ks : List Kid) (at n lo : ℕ) (d : Kid) → AreKidsTo lo ks → IsAtPlace ks at n d → (v : ℕ) → has d.set v ≡ true → v < lo
below_here ks at n lo d kids p v h = kid_below lo ks kids at d v p.within (ap (λ k. has k.set v) p.value ∙ h)

pub kept_here : (ks : List Kid) (at m lo hi : ℕ) (d : Kid) (s : List Iv) → IsAtPlace ks at m d → ((v : ℕ) → has s v ≡ (has d.set v || between lo hi v))
    → (n x : ℕ) → HasKid ks n x → HasKid (set ks at (record { set = s; node = d.node })) n x
kept_here ks at m lo hi d s p e n x h = has_kid-grow ks at (record { set = s; node = d.node }) d n x (ap (λ k. k.node) (sym p.value))
    (λ t. set_at ks at m lo hi d s p e x ∙ or_left (has (get_or ks at d).set x) (between lo hi x) t) h

pub grown_here : (ks : List Kid) (at m lo hi : ℕ) (d : Kid) (s : List Iv) → IsAtPlace ks at m d → ((v : ℕ) → has s v ≡ (has d.set v || between lo hi v))
    → (x : ℕ) → lo ≤ x → x ≤ hi → HasKid (set ks at (record { set = s; node = d.node })) m x
grown_here ks at m lo hi d s p e x a b = has_kid-set ks at (record { set = s; node = d.node }) m x p.within p.node (e x ∙ or_right (has d.set x) (between lo hi x) (between-from lo hi x a b))

-- The kids of the pieces so far.

-- what the kids of the pieces so far keep
pub record IsGathered (done : List (Piece ℕ)) (ks : List Kid) (keys : List ℕ) : Type 0 where
  pub kids : AreKidsTo (end_of 0 done) ks
  pub order : keys ≡ map (λ k. k.node) ks
  pub different : AreDifferent keys
  pub goes : All (λ p. (x : ℕ) → p.lo ≤ x → x ≤ p.hi → HasKid ks p.held x) done
  pub named : (n : ℕ) → Contains keys n → Contains (map (λ p. p.held) done) n

pub gathered-none : (keys : List ℕ) → keys ≡ [] → IsGathered [] [] keys
gathered-none keys e = record {
  kids = kids-none;
  order = e;
  different = λ i j x a b. (let z : None ≡ Some x = rw e at a in absurd (cc));
  goes = λ k d lt. absurd (omega arith);
  named = λ n h. rw e at h;
}

-- what one more piece does
pub record Adds (p : Piece ℕ) (ks js : List Kid) (keys mores : List ℕ) : Type 0 where
  pub kids : AreKidsTo (p.hi + 1) js
  pub order : mores ≡ map (λ k. k.node) js
  pub different : AreDifferent mores
  pub kept : (n x : ℕ) → HasKid ks n x → HasKid js n x
  pub here : (x : ℕ) → p.lo ≤ x → x ≤ p.hi → HasKid js p.held x
  pub named : (n : ℕ) → Contains mores n → Contains keys n ⊎ (n ≡ p.held)

pub gathered-more : (done : List (Piece ℕ)) (p : Piece ℕ) (ks js : List Kid) (keys mores : List ℕ) → IsGathered done ks keys → Adds p ks js keys mores → IsGathered (done ++ p ∷ []) js mores
gathered-more done p ks js keys mores g a = record {
  kids = subst (λ n. AreKidsTo n js) (sym (end_of-push 0 done p)) a.kids;
  order = a.order;
  different = a.different;
  goes = All-push (λ q. (x : ℕ) → q.lo ≤ x → x ≤ q.hi → HasKid js q.held x) done p (λ k d lt x lo hi. a.kept (get_or done k d).held x (g.goes k d lt x lo hi)) a.here;
  named = λ n h. (let P : List ℕ → Type 0 = λ xs. Contains xs n in subst P (sym (map_push (λ p. p.held) done p)) (elim (a.named n h) [
    | inl there ↦ Contains-append_left (map (λ p. p.held) done) (p.held ∷ []) n (g.named n there)
    | inr is ↦ subst (λ m. Contains (map (λ p. p.held) done ++ p.held ∷ []) m) (sym is) (Contains-push (map (λ p. p.held) done) p.held)
  ]));
}

-- each kid's node is that of a piece
pub each_named : (done : List (Piece ℕ)) (ks : List Kid) (keys : List ℕ) → IsGathered done ks keys → All (λ k. Contains (map (λ p. p.held) done) k.node) ks
each_named done ks keys g i d lt =
    let there : Contains (map (λ k. k.node) ks) (get_or (map (λ k. k.node) ks) i 0) = Contains-get_or (map (λ k. k.node) ks) i 0 (omega (arith, length-map ks (λ k. k.node))) in
    g.named (get_or ks i d).node (let P : ℕ → Type 0 = λ n. Contains keys n in subst P (get_or-map (λ k. k.node) ks i d 0 lt) (subst (λ xs. Contains xs (get_or (map (λ k. k.node) ks) i 0)) (sym g.order) there))

-- at the end of the pieces

pub record IsWhole (pieces : List (Piece ℕ)) (ks : List Kid) : Type 0 where
  pub kids : AreKidsTo (end_of 0 pieces) ks
  pub different : AreDifferent (map (λ k. k.node) ks)
  pub goes : All (λ p. (x : ℕ) → p.lo ≤ x → x ≤ p.hi → HasKid ks p.held x) pieces
  pub named : All (λ k. Contains (map (λ p. p.held) pieces) k.node) ks

pub gathered-all : (pieces : List (Piece ℕ)) (i : ℕ) (ks js : List Kid) (keys : List ℕ) → IsGathered (take i pieces) ks keys → length pieces ≤ i → js ≡ ks → IsWhole pieces js
gathered-all pieces i ks js keys g le e =
    let all : IsGathered pieces ks keys = subst (λ done. IsGathered done ks keys) (take_all i pieces le) g in
    subst (λ zs. IsWhole pieces zs) (sym e) (record {
      kids = all.kids;
      different = subst (λ zs. AreDifferent zs) all.order all.different;
      goes = all.goes;
      named = each_named pieces ks keys all;
    })

pub gathered-next : (pieces : List (Piece ℕ)) (i : ℕ) (d : Piece ℕ) (ks js : List Kid) (keys mores : List ℕ) → IsGathered (take i pieces) ks keys → i < length pieces → Adds (get_or pieces i d) ks js keys mores
    → IsGathered (take (i + 1) pieces) js mores
gathered-next pieces i d ks js keys mores g lt a =
    subst (λ done. IsGathered done js mores) (sym (take_more pieces i d lt)) (gathered-more (take i pieces) (get_or pieces i d) ks js keys mores g a)
