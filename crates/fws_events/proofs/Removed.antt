-- The classes against a list without one of its entries, and with one more.
use Rattle.std.proofs.Common.{◌≡◌, Bool, true, false, cond, ◌||◌, List, [], ◌∷◌, ◌++◌, refl, sym, ◌∙◌, ap}
use Rattle.fws_net.specs.declared.connection.Conn.{Conn}
use Rattle.fws_net.specs.declared.connection.Kind.{Kind}
use Rattle.fws_net.specs.declared.connection.Kind.TheVariants.{New, Est}
use Rattle.fws_net.specs.declared.connection.Rec.{Rec}
use Rattle.fws_net.specs.declared.connection.Tuple.{Tuple}
use Rattle.fws_net.specs.Connections.{matches, inverse, class_of, is_est}
use Rattle.fws_trace.specs.Classes.{settled}

-- tuples that match are matched by the same tuples
abbrev pub MatchAlike : Type 0
MatchAlike = (a b c : Tuple) → matches a b ≡ true → matches c a ≡ matches c b

-- so they have the same class
pub same_class : MatchAlike → (conns : List Conn) (a t : Tuple) → matches a t ≡ true → class_of conns a ≡ class_of conns t
same_class alike [] a t m = refl
same_class alike (c ∷ cs) a t m =
    ap (λ (b : Bool). cond b (Est (inverse c.reply)) (cond (matches c.reply a) (Est (inverse c.orig)) (class_of cs a))) (alike a t c.orig m)
    ∙ ap (λ (b : Bool). cond (matches c.orig t) (Est (inverse c.reply)) (cond b (Est (inverse c.orig)) (class_of cs a))) (alike a t c.reply m)
    ∙ ap (λ (k : Kind). cond (matches c.orig t) (Est (inverse c.reply)) (cond (matches c.reply t) (Est (inverse c.orig)) k)) (same_class alike cs a t m)

-- an entry that doesn't match is left out without a difference
left_out : (xs ys : List Conn) (c : Conn) (t : Tuple) → matches c.orig t ≡ false → matches c.reply t ≡ false → class_of (xs ++ ys) t ≡ class_of (xs ++ c ∷ ys) t
left_out [] ys c t o r =
    sym (ap (λ (b : Bool). cond b (Est (inverse c.reply)) (cond (matches c.reply t) (Est (inverse c.orig)) (class_of ys t))) o
    ∙ ap (λ (b : Bool). cond b (Est (inverse c.orig)) (class_of ys t)) r)
left_out (x ∷ xs) ys c t o r =
    ap (λ (k : Kind). cond (matches x.orig t) (Est (inverse x.reply)) (cond (matches x.reply t) (Est (inverse x.orig)) k)) (left_out xs ys c t o r)

here : (o r : Bool) (a b : Rec) (k : Kind) → (o || r) ≡ true → is_est (cond o (Est a) (cond r (Est b) k)) ≡ true
here true r a b k m = refl
here false true a b k m = refl
here false false a b k m = absurd (cc)

there : (o r : Bool) (a b : Rec) (k : Kind) → is_est k ≡ true → is_est (cond o (Est a) (cond r (Est b) k)) ≡ true
there true r a b k e = refl
there false true a b k e = refl
there false false a b k e = e

-- packets that an entry matches have ends
pub has_ends : (xs ys : List Conn) (c : Conn) (t : Tuple) → (matches c.orig t || matches c.reply t) ≡ true → is_est (class_of (xs ++ c ∷ ys) t) ≡ true
has_ends [] ys c t m = here (matches c.orig t) (matches c.reply t) (inverse c.reply) (inverse c.orig) (class_of ys t) m
has_ends (x ∷ xs) ys c t m = there (matches x.orig t) (matches x.reply t) (inverse x.reply) (inverse x.orig) (class_of (xs ++ c ∷ ys) t) (has_ends xs ys c t m)

settled_on : (r : Bool) (of_reply k rest : Kind) → k ≡ rest → (r ≡ true → of_reply ≡ rest) → settled r of_reply k ≡ rest
settled_on r of_reply New rest e reply = e
settled_on true of_reply (Est s) rest e reply = reply refl
settled_on false of_reply (Est s) rest e reply = e

settled_twice : (o r : Bool) (of_orig of_reply k rest : Kind) → (o ≡ true → of_orig ≡ rest) → (r ≡ true → of_reply ≡ rest) → ((o || r) ≡ true → is_est k ≡ true)
    → (o ≡ false → r ≡ false → rest ≡ k) → settled r of_reply (settled o of_orig k) ≡ rest
settled_twice true r of_orig of_reply New rest orig reply known other = let h = known refl in absurd (cc)
settled_twice true r of_orig of_reply (Est s) rest orig reply known other = settled_on r of_reply of_orig rest (orig refl) reply
settled_twice false true of_orig of_reply New rest orig reply known other = let h = known refl in absurd (cc)
settled_twice false true of_orig of_reply (Est s) rest orig reply known other = reply refl
settled_twice false false of_orig of_reply New rest orig reply known other = sym (other refl refl)
settled_twice false false of_orig of_reply (Est s) rest orig reply known other = sym (other refl refl)

-- both tuples of an entry are settled by the list without it
pub without : MatchAlike → (xs ys conns rest : List Conn) (c : Conn) (t : Tuple) (old mid new : Kind) → conns ≡ xs ++ c ∷ ys → rest ≡ xs ++ ys → old ≡ class_of conns t
    → mid ≡ settled (matches c.orig t) (class_of rest c.orig) old → new ≡ settled (matches c.reply t) (class_of rest c.reply) mid → new ≡ class_of rest t
without alike xs ys conns rest c t old mid new whole left was first then =
    then ∙ ap (λ (k : Kind). settled (matches c.reply t) (class_of rest c.reply) k) first
    ∙ settled_twice (matches c.orig t) (matches c.reply t) (class_of rest c.orig) (class_of rest c.reply) old (class_of rest t)
    (same_class alike rest c.orig t) (same_class alike rest c.reply t)
    (λ m. ap is_est (was ∙ ap (λ (cs : List Conn). class_of cs t) whole) ∙ has_ends xs ys c t m)
    (λ o r. ap (λ (cs : List Conn). class_of cs t) left ∙ left_out xs ys c t o r ∙ sym (was ∙ ap (λ (cs : List Conn). class_of cs t) whole))
