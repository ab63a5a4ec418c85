-- Decisions that stand for others.
use Rattle.std.proofs.Common.{◌≡◌, Bool, true, false, cond, ◌||◌, Option, Some, None, List, [], ◌∷◌, ◌++◌, refl, sym, ap, ◌∙◌, subst, append_assoc}
use Rattle.fws_net.specs.declared.view.View.{View}
use Rattle.fws_net.specs.Conditions.{holds}
use Rattle.fws_join.specs.declared.decision.Decision.{Decision}
use Rattle.fws_join.specs.Deciding.{StandsFor, first_verdict}
use Rattle.fws_join.specs.Joined.{IsForBoth, IsForLast}

-- the first of two
abbrev or_else : Option Bool → Option Bool → Option Bool
or_else None o = o
or_else (Some passes) o = Some passes

chosen : (b passes : Bool) (o more : Option Bool) → cond b (Some passes) (or_else o more) ≡ or_else (cond b (Some passes) o) more
chosen true passes o more = refl
chosen false passes o more = refl

first_append : (v : View) (xs ys : List Decision) → first_verdict v (xs ++ ys) ≡ or_else (first_verdict v xs) (first_verdict v ys)
first_append v [] ys = refl
first_append v (x ∷ xs) ys =
    ap (cond (holds x.cond v) (Some x.passes)) (first_append v xs ys) ∙ chosen (holds x.cond v) x.passes (first_verdict v xs) (first_verdict v ys)

pub stands_same : (xs : List Decision) → StandsFor xs xs
stands_same xs v = refl

pub stands_for : (xs ys : List Decision) → xs ≡ ys → StandsFor xs ys
stands_for xs ys is v = ap (first_verdict v) is

pub stands_through : (xs ys zs : List Decision) → StandsFor xs ys → StandsFor ys zs → StandsFor xs zs
stands_through xs ys zs a b v = a v ∙ b v

pub stands_longer : (xs ys more : List Decision) → StandsFor xs ys → StandsFor (xs ++ more) (ys ++ more)
stands_longer xs ys more a v = first_append v xs more ∙ ap (λ o. or_else o (first_verdict v more)) (a v) ∙ sym (first_append v ys more)

-- a further one
pub one_more : (xs ys zs : List Decision) (x : Decision) → zs ≡ xs ++ x ∷ [] → StandsFor xs ys → StandsFor zs (ys ++ x ∷ [])
one_more xs ys zs x is a = stands_through zs (xs ++ x ∷ []) (ys ++ x ∷ []) (stands_for zs (xs ++ x ∷ []) is) (stands_longer xs ys (x ∷ []) a)

-- One decision for the last two

one_verdict : (a b passes : Bool) → cond (a || b) (Some passes) None ≡ cond a (Some passes) (cond b (Some passes) None)
one_verdict true b passes = refl
one_verdict false b passes = refl

pair : (v : View) (a b r : Decision) → IsForBoth a b r → first_verdict v (r ∷ []) ≡ first_verdict v (a ∷ b ∷ [])
pair v a b r is =
    ap (λ c. cond c (Some r.passes) None) (is.cond v)
    ∙ ap (λ p. cond (holds a.cond v || holds b.cond v) (Some p) None) is.passes
    ∙ one_verdict (holds a.cond v) (holds b.cond v) a.passes
    ∙ ap (λ p. cond (holds a.cond v) (Some a.passes) (cond (holds b.cond v) (Some p) None)) (sym is.same)

pub last_joined : (some new : List Decision) (other r : Decision) (is : IsForLast some other r) → new ≡ is.ahead ++ r ∷ [] → StandsFor new (some ++ other ∷ [])
last_joined some new other r is made v =
    ap (first_verdict v) made
    ∙ first_append v is.ahead (r ∷ [])
    ∙ ap (or_else (first_verdict v is.ahead)) (pair v is.last other r is.both)
    ∙ sym (first_append v is.ahead (is.last ∷ other ∷ []))
    ∙ ap (first_verdict v) (sym (append_assoc is.ahead (is.last ∷ []) (other ∷ [])) ∙ ap (λ l. l ++ other ∷ []) (sym is.are))
