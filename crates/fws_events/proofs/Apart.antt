-- Entries of which no two match a tuple.
use Rattle.std.proofs.Common.{◌≡◌, Bool, true, false, cond, ◌&&◌, ◌||◌, not, nat_eq, List, [], ◌∷◌, ◌++◌, refl, sym, ◌∙◌, ap}
use Rattle.std.proofs.lemmas.Bool.{eq-eqb}
use Rattle.fws_events.specs.Listing.{AreApart}
use Rattle.fws_events.proofs.Removed.{MatchAlike, same_class, has_ends}
use Rattle.fws_net.specs.declared.connection.Conn.{Conn}
use Rattle.fws_net.specs.declared.connection.Kind.{Kind}
use Rattle.fws_net.specs.declared.connection.Kind.TheVariants.{New, Est}
use Rattle.fws_net.specs.declared.connection.Rec.{Rec}
use Rattle.fws_net.specs.declared.connection.Tuple.{Tuple}
use Rattle.fws_net.specs.Connections.{matches, inverse, class_of, is_est}
use Rattle.fws_net.specs.Fates.{has_ports}

all_true : (p d s x y h : Bool) → p ≡ true → d ≡ true → s ≡ true → x ≡ true → y ≡ true → (p && d && s && (not h || (x && y))) ≡ true
all_true true true true true true true e f g k l = refl
all_true true true true true true false e f g k l = refl
all_true false d s x y h e f g k l = absurd (cc)
all_true true false s x y h e f g k l = absurd (cc)
all_true true true false x y h e f g k l = absurd (cc)
all_true true true true false y h e f g k l = absurd (cc)
all_true true true true true false h e f g k l = absurd (cc)

pub match_self : (a : Tuple) → matches a a ≡ true
match_self a = all_true (nat_eq a.proto a.proto) (nat_eq a.dst a.dst) (nat_eq a.src a.src) (nat_eq a.dport a.dport) (nat_eq a.sport a.sport) (has_ports a.proto)
    (eq-eqb a.proto a.proto refl) (eq-eqb a.dst a.dst refl) (eq-eqb a.src a.src refl) (eq-eqb a.dport a.dport refl) (eq-eqb a.sport a.sport refl)

pub or_left : (a b : Bool) → a ≡ true → (a || b) ≡ true
or_left true b e = refl
or_left false b e = absurd (cc)

pub or_right : (a b : Bool) → b ≡ true → (a || b) ≡ true
or_right true b e = refl
or_right false b e = e

-- a class can't be both new and established
never : (k : Kind) → k ≡ New → is_est k ≡ true → false ≡ true
never k e f = sym (ap is_est e) ∙ f

none_of : (o r : Bool) (a b : Rec) (k : Kind) → cond o (Est a) (cond r (Est b) k) ≡ New → k ≡ New
none_of true r a b k e = let f : true ≡ false = ap is_est e in absurd (cc)
none_of false true a b k e = let f : true ≡ false = ap is_est e in absurd (cc)
none_of false false a b k e = e

carried : (o r : Bool) (a b : Rec) (k l : Kind) → cond o (Est a) (cond r (Est b) k) ≡ New → l ≡ New → cond o (Est a) (cond r (Est b) l) ≡ New
carried true r a b k l e f = let g : true ≡ false = ap is_est e in absurd (cc)
carried false true a b k l e f = let g : true ≡ false = ap is_est e in absurd (cc)
carried false false a b k l e f = f

passed_by : (o r : Bool) (a b : Rec) (k later : Kind) → ((o || r) ≡ true → later ≡ New) → is_est later ≡ true → k ≡ New → cond o (Est a) (cond r (Est b) k) ≡ New
passed_by true r a b k later h est e = let f = never later (h refl) est in absurd (cc)
passed_by false true a b k later h est e = let f = never later (h refl) est in absurd (cc)
passed_by false false a b k later h est e = e

-- what an entry matched is new without it
pub gone : (xs ys : List Conn) (c : Conn) (t : Tuple) → AreApart (xs ++ c ∷ ys) → (matches c.orig t || matches c.reply t) ≡ true → class_of (xs ++ ys) t ≡ New
gone [] ys c t apart m = apart.0 t m
gone (x ∷ xs) ys c t apart m =
    passed_by (matches x.orig t) (matches x.reply t) (inverse x.reply) (inverse x.orig) (class_of (xs ++ ys) t) (class_of (xs ++ c ∷ ys) t) (apart.0 t)
    (has_ends xs ys c t m) (gone xs ys c t apart.1 m)

fewer : (xs ys : List Conn) (c : Conn) (t : Tuple) → class_of (xs ++ c ∷ ys) t ≡ New → class_of (xs ++ ys) t ≡ New
fewer [] ys c t e = none_of (matches c.orig t) (matches c.reply t) (inverse c.reply) (inverse c.orig) (class_of ys t) e
fewer (x ∷ xs) ys c t e =
    carried (matches x.orig t) (matches x.reply t) (inverse x.reply) (inverse x.orig) (class_of (xs ++ c ∷ ys) t) (class_of (xs ++ ys) t) e
    (fewer xs ys c t (none_of (matches x.orig t) (matches x.reply t) (inverse x.reply) (inverse x.orig) (class_of (xs ++ c ∷ ys) t) e))

pub still_apart : (xs ys : List Conn) (c : Conn) → AreApart (xs ++ c ∷ ys) → AreApart (xs ++ ys)
still_apart [] ys c apart = apart.1
still_apart (x ∷ xs) ys c apart = ((λ t m. fewer xs ys c t (apart.0 t m)), still_apart xs ys c apart.1)

behind_new : (xs : List Conn) (c : Conn) (t : Tuple) → class_of xs t ≡ New → class_of (c ∷ []) t ≡ New → class_of (xs ++ c ∷ []) t ≡ New
behind_new [] c t e f = f
behind_new (x ∷ xs) c t e f =
    carried (matches x.orig t) (matches x.reply t) (inverse x.reply) (inverse x.orig) (class_of xs t) (class_of (xs ++ c ∷ []) t) e
    (behind_new xs c t (none_of (matches x.orig t) (matches x.reply t) (inverse x.reply) (inverse x.orig) (class_of xs t) e) f)

unmatched : (o r : Bool) (a b : Rec) → (o ≡ true → ⊥) → (r ≡ true → ⊥) → cond o (Est a) (cond r (Est b) New) ≡ New
unmatched true r a b h i = absurd (h refl)
unmatched false true a b h i = absurd (i refl)
unmatched false false a b h i = refl

clash : MatchAlike → (x : Conn) (xs : List Conn) (a t : Tuple) → class_of (x ∷ xs) a ≡ New → (matches x.orig t || matches x.reply t) ≡ true → matches a t ≡ true → ⊥
clash alike x xs a t new m is =
    let f = never (class_of (x ∷ xs) t) (sym (same_class alike (x ∷ xs) a t is) ∙ new) (has_ends [] xs x t m) in absurd (cc)

-- a further entry whose tuples are new
pub more_apart : MatchAlike → (xs : List Conn) (c : Conn) → AreApart xs → class_of xs c.orig ≡ New → class_of xs c.reply ≡ New → AreApart (xs ++ c ∷ [])
more_apart alike [] c apart o r = ((λ t m. refl), tt)
more_apart alike (x ∷ xs) c apart o r = (
  (λ t m. behind_new xs c t (apart.0 t m) (unmatched (matches c.orig t) (matches c.reply t) (inverse c.reply) (inverse c.orig)
      (clash alike x xs c.orig t o m) (clash alike x xs c.reply t r m))),
  more_apart alike xs c apart.1
      (none_of (matches x.orig c.orig) (matches x.reply c.orig) (inverse x.reply) (inverse x.orig) (class_of xs c.orig) o)
      (none_of (matches x.orig c.reply) (matches x.reply c.reply) (inverse x.reply) (inverse x.orig) (class_of xs c.reply) r),
)

-- a class that isn't established is new
pub is_new : (k : Kind) → is_est k ≡ false → k ≡ New
is_new New e = refl
is_new (Est r) e = absurd (cc)
