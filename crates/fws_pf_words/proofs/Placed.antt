-- Tables and names that are looked up.
use Rattle.std.proofs.Common.{◌≡◌, ℕ, suc, Bool, true, false, ◌||◌, Option, None, Some, is_some, List, [], ◌∷◌, ◌++◌, length, position, cond, find, refl, sym, ap, subst, ◌∙◌, true≢false, arith}
use Rattle.std.proofs.lemmas.Grind.{common_steps}
use Rattle.std.proofs.lemmas.Cmp.{nat_list_eq_equiv}
use Rattle.std.proofs.lemmas.List.Folds.{list_any-append}
use Rattle.std.proofs.lemmas.Slice.Eq.{bytes_eq-Decides}
use Rattle.std.specs.List.{list_any}
use Rattle.std.specs.Option.{option_map}
use Rattle.std.specs.Str.{bytes_eq}
use Rattle.fws_pf.specs.declared.tables.Table.{Table}

abbrev pub bears : List ℕ → Table → Bool
bears name t = bytes_eq t.name name

there : (b : Bool) (p : Option ℕ) (t : Table) (f : Option Table) → is_some p ≡ is_some f → is_some (cond b (Some 0) (option_map (λ i. suc i) p)) ≡ is_some (cond b (Some t) f)
there true p t f h = refl
there false None t f h = h
there false (Some i) t f h = h

-- the place in a list by its first element
pub position_next : {X : Type 0} (f : X → Bool) (x : X) (xs : List X) → position f (x ∷ xs) ≡ cond (f x) (Some 0) (option_map (λ i. suc i) (position f xs))
position_next f x xs = grind (arith, common_steps)

position_none : {X : Type 0} (f : X → Bool) → position f [] ≡ None
position_none f = grind (arith, common_steps)

-- a table has a place where it is found
pub place_found : (name : List ℕ) (ts : List Table) → is_some (position (bears name) ts) ≡ is_some (find (bears name) ts)
place_found name [] = ap is_some (position_none (bears name))
place_found name (t ∷ ts) = ap is_some (position_next (bears name) t ts) ∙ there (bears name t) (position (bears name) ts) t (find (bears name) ts) (place_found name ts)

-- the place of what was found, or that of what is put behind
abbrev pub placed : Option ℕ → Bool → ℕ → Option ℕ
placed (Some i) b n = Some i
placed None b n = cond b (Some n) None

further : (b c : Bool) (p : Option ℕ) (n : ℕ) → cond b (Some 0) (option_map (λ i. suc i) (placed p c n)) ≡ placed (cond b (Some 0) (option_map (λ i. suc i) p)) c (suc n)
further true c p n = refl
further false c (Some i) n = refl
further false true None n = refl
further false false None n = refl

pub position_behind : {X : Type 0} (f : X → Bool) (xs : List X) (x : X) → position f (xs ++ x ∷ []) ≡ placed (position f xs) (f x) (length xs)
position_behind f [] x =
    position_next f x [] ∙ ap (λ p. cond (f x) (Some 0) (option_map (λ i. suc i) p)) (position_none f) ∙ ap (λ p. placed p (f x) 0) (sym (position_none f))
position_behind f (y ∷ ys) x =
    position_next f y (ys ++ x ∷ [])
    ∙ ap (λ p. cond (f y) (Some 0) (option_map (λ i. suc i) p)) (position_behind f ys x)
    ∙ further (f y) (f x) (position f ys) (length ys)
    ∙ ap (λ p. placed p (f x) (suc (length ys))) (sym (position_next f y ys))

-- a further table of a name that is there
still : (b : Bool) (p : Option ℕ) (n : ℕ) → (b ≡ true → is_some p ≡ true) → placed p b n ≡ p
still b (Some i) n h = refl
still true None n h = absurd (true≢false (sym (h refl)))
still false None n h = refl

pub put_known : (ts new : List Table) (t : Table) (name : List ℕ) (was : Option ℕ) (known : Bool) → was ≡ position (bears name) ts → new ≡ ts ++ t ∷ []
    → known ≡ is_some (find (bears t.name) ts) → known ≡ true → was ≡ position (bears name) new
put_known ts new t name was known e n k y =
    let here : is_some (position (bears t.name) ts) ≡ true = place_found t.name ts ∙ sym k ∙ y in
    e ∙ sym (ap (position (bears name)) n ∙ position_behind (bears name) ts t
    ∙ still (bears name t) (position (bears name) ts) (length ts) (λ same. subst (λ m. is_some (position (bears m) ts) ≡ true) ((bytes_eq-Decides t.name name).0 same) here))

none_there : (p : Option ℕ) → is_some p ≡ false → p ≡ None
none_there None h = refl
none_there (Some i) h = absurd (true≢false h)

-- a further table of a new name
opened : (b c : Bool) (p : Option ℕ) (n : ℕ) → b ≡ c → (b ≡ true → p ≡ None) → cond b (Some n) p ≡ placed p c n
opened true true p n e h = rw (h refl) refl
opened true false p n e h = absurd (true≢false e)
opened false true p n e h = absurd (true≢false (sym e))
opened false false None n e h = refl
opened false false (Some i) n e h = refl

pub put_new : (ts new : List Table) (t : Table) (key name : List ℕ) (was now : Option ℕ) (place : ℕ) (known : Bool) → was ≡ position (bears name) ts → new ≡ ts ++ t ∷ []
    → known ≡ is_some (find (bears t.name) ts) → known ≡ false → key ≡ t.name → place ≡ length ts → now ≡ cond (bytes_eq key name) (Some place) was
    → now ≡ position (bears name) new
put_new ts new t key name was now place known e n k z c p h =
    let absent : position (bears t.name) ts ≡ None = none_there (position (bears t.name) ts) (place_found t.name ts ∙ sym k ∙ z) in
    h ∙ (λ i. cond (bytes_eq (c i) name) (Some (p i)) (e i))
    ∙ opened (bytes_eq t.name name) (bears name t) (position (bears name) ts) (length ts) refl
    (λ same. subst (λ m. position (bears m) ts ≡ None) ((bytes_eq-Decides t.name name).0 same) absent)
    ∙ sym (ap (position (bears name)) n ∙ position_behind (bears name) ts t)

-- Names

among : (b c w : Bool) → b ≡ c → cond b true w ≡ (w || (c || false))
among true true true e = refl
among true true false e = refl
among false false true e = refl
among false false false e = refl
among true false w e = absurd (true≢false e)
among false true w e = absurd (true≢false (sym e))

pub name_put : (names new : List (List ℕ)) (put key name : List ℕ) (was now : Bool) → was ≡ list_any (bytes_eq name) names → new ≡ names ++ put ∷ [] → key ≡ put
    → now ≡ cond (bytes_eq key name) true was → now ≡ list_any (bytes_eq name) new
name_put names new put key name was now e n c h =
    h ∙ (λ i. cond (bytes_eq (c i) name) true (e i))
    ∙ among (bytes_eq put name) (bytes_eq name put) (list_any (bytes_eq name) names) (nat_list_eq_equiv.symm put name)
    ∙ sym (ap (list_any (bytes_eq name)) n ∙ list_any-append (bytes_eq name) names (put ∷ []))
