-- Conditions that differ at one place.
use Rattle.std.proofs.Common.{◌≡◌, ℕ, zero, suc, ◌+◌, ◌<◌, ◌≤◌, Bool, true, false, ◌&&◌, ◌||◌, nat_eq, Option, Some, None, List, [], ◌∷◌, ◌++◌, length, take, drop, get_or, take-suc, arith, refl, sym, ap, ◌∙◌, subst, eqb-true, eq-eqb}
use Rattle.std.specs.Bool.{Decides}
use Rattle.std.specs.List.{list_all}
use Rattle.std.proofs.lemmas.Bool.{and_parts}
use Rattle.std.proofs.lemmas.List.Folds.{list_all-append}
use Rattle.fws_iv.specs.declared.iv.Iv.{Iv}
use Rattle.fws_iv.specs.Ivs.{has}
use Rattle.fws_net.specs.declared.condition.Lit.{Lit}
use Rattle.fws_net.specs.declared.view.View.{View}
use Rattle.fws_net.specs.Conditions.{holds, is_shown, lit_holds}
use Rattle.fws_join.specs.Joined.{DiffersAt, IsEither}

-- equal sets

iv_exact : (x y : Iv) → (nat_eq x.lo y.lo && nat_eq x.hi y.hi) ≡ true → x ≡ y
iv_exact x y h =
    let both = and_parts (nat_eq x.lo y.lo) (nat_eq x.hi y.hi) h in
    let lo = eqb-true x.lo y.lo both.0 in
    let hi = eqb-true x.hi y.hi both.1 in
    λ i. record { lo = lo i; hi = hi i }

pub iv_decides : (x y : Iv) → Decides (nat_eq x.lo y.lo && nat_eq x.hi y.hi) (x ≡ y)
iv_decides x y = (
  iv_exact x y,
  λ e. subst (λ (z : Iv). (nat_eq x.lo z.lo && nat_eq x.hi z.hi) ≡ true) e (ap (λ b. b && nat_eq x.hi x.hi) (eq-eqb x.lo x.lo refl) ∙ eq-eqb x.hi x.hi refl),
)

-- the numbers of two sets

pub guarded_either : (p x y z : Bool) → z ≡ (x || y) → (p && z) ≡ ((p && x) || (p && y))
guarded_either true x y z is = is
guarded_either false x y z is = refl

pub shown_either : (o : Option ℕ) (a b c : List Iv) → ((v : ℕ) → has c v ≡ (has a v || has b v)) → is_shown o c ≡ (is_shown o a || is_shown o b)
shown_either None a b c is = refl
shown_either (Some n) a b c is = is n

-- lists that are equal up to a place

pub one_more : (a b : List Lit) (n : ℕ) (x y : Lit) → take n a ≡ take n b → n < length a → n < length b → x ≡ get_or a n x → y ≡ get_or b n y → x ≡ y → take (n + 1) a ≡ take (n + 1) b
one_more a b n x y same first second is other equal =
    let here : take (n + 1) a ≡ take n a ++ x ∷ [] =
    ap (λ k. take k a) (let up : n + 1 ≡ suc n = omega arith in up) ∙ take-suc a n x first ∙ ap (λ z. take n a ++ z ∷ []) (sym is) in
    let there : take (n + 1) b ≡ take n b ++ y ∷ [] =
    ap (λ k. take k b) (let up : n + 1 ≡ suc n = omega arith in up) ∙ take-suc b n y second ∙ ap (λ z. take n b ++ z ∷ []) (sym other) in
    here ∙ ap (λ l. l ++ x ∷ []) same ∙ ap (λ z. take n b ++ z ∷ []) equal ∙ sym there

-- the literal at a place

parted : (a : List Lit) (n : ℕ) (d : Lit) → n < length a → a ≡ take n a ++ get_or a n d ∷ drop (n + 1) a
parted [] n d lt = absurd (omega arith)
parted (x ∷ a) zero d lt = refl
parted (x ∷ a) (suc n) d lt =
    let up : suc n + 1 ≡ suc (n + 1) = omega arith in
    ap (λ l. x ∷ l) (parted a n d (omega arith)) ∙ ap (λ l. x ∷ (take n a ++ get_or a n d ∷ l)) (sym (ap (λ k. drop k (x ∷ a)) up))

of_parts : (v : View) (ahead behind : List Lit) (x : Lit) → holds (ahead ++ x ∷ behind) v ≡ (holds ahead v && (lit_holds v x && holds behind v))
of_parts v ahead behind x = list_all-append (lit_holds v) ahead (x ∷ behind)

split : (p x y r : Bool) → (p && ((x || y) && r)) ≡ ((p && (x && r)) || (p && (y && r)))
split true true true true = refl
split true true true false = refl
split true true false true = refl
split true true false false = refl
split true false y r = refl
split false x y r = refl

pub either_holds : (a b c : List Lit) (n : ℕ) (x y lit : Lit) → DiffersAt a b n → x ≡ get_or a n x → y ≡ get_or b n y → IsEither x y lit
    → c ≡ take n a ++ lit ∷ drop (n + 1) a → (v : View) → holds c v ≡ (holds a v || holds b v)
either_holds a b c n x y lit d is other either made v =
    let p = holds (take n a) v in
    let r = holds (drop (n + 1) a) v in
    let one : holds a v ≡ (p && (lit_holds v x && r)) =
    ap (λ l. holds l v) (parted a n x d.first) ∙ of_parts v (take n a) (drop (n + 1) a) (get_or a n x) ∙ ap (λ z. p && (lit_holds v z && r)) (sym is) in
    let two : holds b v ≡ (p && (lit_holds v y && r)) =
    ap (λ l. holds l v) (parted b n y d.second)
    ∙ of_parts v (take n b) (drop (n + 1) b) (get_or b n y)
    ∙ ap (λ z. holds (take n b) v && (lit_holds v z && holds (drop (n + 1) b) v)) (sym other)
    ∙ ap (λ l. holds l v && (lit_holds v y && holds (drop (n + 1) b) v)) (sym d.ahead)
    ∙ ap (λ l. p && (lit_holds v y && holds l v)) (sym d.behind) in
    ap (λ l. holds l v) made
    ∙ of_parts v (take n a) (drop (n + 1) a) lit
    ∙ ap (λ z. p && (z && r)) (either v)
    ∙ split p (lit_holds v x) (lit_holds v y) r
    ∙ ap (λ z. z || (p && (lit_holds v y && r))) (sym one)
    ∙ ap (λ z. holds a v || z) (sym two)
