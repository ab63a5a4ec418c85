-- What tuples share that match, and classes that are noted one after the other.
use Rattle.std.proofs.Common.{◌≡◌, ℕ, Bool, true, false, cond, ◌&&◌, ◌||◌, not, nat_eq, Option, Some, None, List, [], ◌∷◌, ◌++◌, refl, sym, ◌∙◌, ap, subst, inl, inr}
use Rattle.std.proofs.lemmas.Bool.{cases_Bool, and_parts, eqb-true}
use Rattle.std.specs.Option.{option_map_or}
use Rattle.fws_net.specs.declared.connection.Conn.{Conn}
use Rattle.fws_net.specs.declared.connection.Kind.{Kind}
use Rattle.fws_net.specs.declared.connection.Kind.TheVariants.{New, Est}
use Rattle.fws_net.specs.declared.connection.Rec.{Rec}
use Rattle.fws_net.specs.declared.connection.Tuple.{Tuple}
use Rattle.fws_net.specs.Connections.{matches, inverse, class_of}
use Rattle.fws_net.specs.Fates.{has_ports}
use Rattle.fws_trace.specs.declared.classes.Key.{Key}
use Rattle.fws_trace.specs.Classes.{key_of, key_eq, first_class, class_by, settled}

-- Keys

in_turn : (p d x s y : Bool) → (p && (d && (x && (s && y)))) ≡ (p && d && s && (x && y))
in_turn false d x s y = refl
in_turn true false x s y = refl
in_turn true true false false y = refl
in_turn true true false true y = refl
in_turn true true true false y = refl
in_turn true true true true y = refl

uncounted : (p d s : Bool) → (p && (d && (true && (s && true)))) ≡ (p && d && s && true)
uncounted false d s = refl
uncounted true false s = refl
uncounted true true s = refl

-- ports of tuples of one protocol, which has ports where h is true
with_ports : (h p d s : Bool) (a b c e : ℕ)
    → (p && (d && (nat_eq (cond h a 0) (cond h b 0) && (s && nat_eq (cond h c 0) (cond h e 0))))) ≡ (p && d && s && (not h || (nat_eq a b && nat_eq c e)))
with_ports true p d s a b c e = in_turn p d (nat_eq a b) s (nat_eq c e)
with_ports false p d s a b c e = uncounted p d s

apart : (p d x s y z : Bool) → p ≡ false → (p && (d && (x && (s && y)))) ≡ (p && d && s && z)
apart false d x s y z e = refl
apart true d x s y z e = absurd (cc)

-- tuples match where their keys are equal
pub keys_match : (a b : Tuple) → key_eq (key_of a) (key_of b) ≡ matches a b
keys_match a b = elim (cases_Bool (nat_eq a.proto b.proto)) [
  | inl t ↦ subst
      (λ (q : ℕ). (nat_eq a.proto q && (nat_eq a.dst b.dst && (nat_eq (cond (has_ports a.proto) a.dport 0) (cond (has_ports q) b.dport 0) && (nat_eq a.src b.src
      && nat_eq (cond (has_ports a.proto) a.sport 0) (cond (has_ports q) b.sport 0)))))
      ≡ (nat_eq a.proto q && nat_eq a.dst b.dst && nat_eq a.src b.src && (not (has_ports a.proto) || (nat_eq a.dport b.dport && nat_eq a.sport b.sport))))
      (eqb-true a.proto b.proto t)
      (with_ports (has_ports a.proto) (nat_eq a.proto a.proto) (nat_eq a.dst b.dst) (nat_eq a.src b.src) a.dport b.dport a.sport b.sport)
  | inr f ↦ apart (nat_eq a.proto b.proto) (nat_eq a.dst b.dst) _ (nat_eq a.src b.src) _ _ f
]

made : (p d x s y q e z t w : ℕ) → p ≡ q → d ≡ e → x ≡ z → s ≡ t → y ≡ w
    → ◌≡◌ {A = Key} (record { proto = p; dst = d; dport = x; src = s; sport = y }) (record { proto = q; dst = e; dport = z; src = t; sport = w })
made p d x s y q e z t w proto dst dport src sport = cc

pub same_key : (a b : Key) → key_eq a b ≡ true → a ≡ b
same_key a b e =
    let one = and_parts (nat_eq a.proto b.proto) (nat_eq a.dst b.dst && (nat_eq a.dport b.dport && (nat_eq a.src b.src && nat_eq a.sport b.sport))) e in
    let two = and_parts (nat_eq a.dst b.dst) (nat_eq a.dport b.dport && (nat_eq a.src b.src && nat_eq a.sport b.sport)) one.1 in
    let three = and_parts (nat_eq a.dport b.dport) (nat_eq a.src b.src && nat_eq a.sport b.sport) two.1 in
    let four = and_parts (nat_eq a.src b.src) (nat_eq a.sport b.sport) three.1 in
    made a.proto a.dst a.dport a.src a.sport b.proto b.dst b.dport b.src b.sport (eqb-true a.proto b.proto one.0) (eqb-true a.dst b.dst two.0)
    (eqb-true a.dport b.dport three.0) (eqb-true a.src b.src four.0) (eqb-true a.sport b.sport four.1)

-- Noting

-- ends are noted where there are none
put_first : (old new : Option Rec) (is : Bool) (ends : Rec) → new ≡ cond is (Some ends) old → (is ≡ true → old ≡ None)
    → option_map_or Est new New ≡ first_class (option_map_or Est old New) (cond is (Est ends) New)
put_first None new true ends e none = ap (λ o. option_map_or Est o New) e
put_first (Some r) new true ends e none = let h = none refl in absurd (cc)
put_first None new false ends e none = ap (λ o. option_map_or Est o New) e
put_first (Some r) new false ends e none = ap (λ o. option_map_or Est o New) e

pub noted : (find found : Key → Option Rec) (own t : Tuple) (ends : Rec) → find (key_of own) ≡ None
    → found (key_of t) ≡ cond (key_eq (key_of own) (key_of t)) (Some ends) (find (key_of t))
    → option_map_or Est (found (key_of t)) New ≡ first_class (option_map_or Est (find (key_of t)) New) (class_by own ends t)
noted find found own t ends none e =
    put_first (find (key_of t)) (found (key_of t)) (matches own t) ends
    (e ∙ ap (λ b. cond b (Some ends) (find (key_of t))) (keys_match own t))
    (λ m. ap find (sym (same_key (key_of own) (key_of t) (keys_match own t ∙ m))) ∙ none)

chosen : (is_orig is_reply : Bool) (r s : Rec) (k l : Kind)
    → cond is_orig (Est r) (cond is_reply (Est s) (first_class k l)) ≡ first_class (cond is_orig (Est r) (cond is_reply (Est s) k)) l
chosen true is_reply r s k l = refl
chosen false true r s k l = refl
chosen false false r s k l = refl

-- the class against more connections
pub class_behind : (xs ys : List Conn) (t : Tuple) → class_of (xs ++ ys) t ≡ first_class (class_of xs t) (class_of ys t)
class_behind [] ys t = refl
class_behind (c ∷ cs) ys t =
    ap (λ k. cond (matches c.orig t) (Est (inverse c.reply)) (cond (matches c.reply t) (Est (inverse c.orig)) k)) (class_behind cs ys t)
    ∙ chosen (matches c.orig t) (matches c.reply t) (inverse c.reply) (inverse c.orig) (class_of cs t) (class_of ys t)

-- tuples that match are matched by the same tuples
pub alike : (a b c : Tuple) → matches a b ≡ true → matches c a ≡ matches c b
alike a b c m = sym (keys_match c a) ∙ ap (λ (k : Key). key_eq (key_of c) k) (same_key (key_of a) (key_of b) (keys_match a b ∙ m)) ∙ keys_match c b

-- Settling

to_new : (old new : Option Rec) (is : Bool) → new ≡ cond is None old → option_map_or Est new New ≡ settled is New (option_map_or Est old New)
to_new None new true e = ap (λ o. option_map_or Est o New) e
to_new None new false e = ap (λ o. option_map_or Est o New) e
to_new (Some r) new true e = ap (λ o. option_map_or Est o New) e
to_new (Some r) new false e = ap (λ o. option_map_or Est o New) e

to_ends : (old new : Option Rec) (is : Bool) (ends r : Rec) → new ≡ cond is (Some ends) old → (is ≡ true → old ≡ Some r)
    → option_map_or Est new New ≡ settled is (Est ends) (option_map_or Est old New)
to_ends None new true ends r e known = let h = known refl in absurd (cc)
to_ends None new false ends r e known = ap (λ o. option_map_or Est o New) e
to_ends (Some s) new true ends r e known = ap (λ o. option_map_or Est o New) e
to_ends (Some s) new false ends r e known = ap (λ o. option_map_or Est o New) e

as_before : (old : Option Rec) (is : Bool) (k : Kind) → (is ≡ true → old ≡ None) → option_map_or Est old New ≡ settled is k (option_map_or Est old New)
as_before None is k none = refl
as_before (Some r) true k none = let h = none refl in absurd (cc)
as_before (Some r) false k none = refl

-- what is known of a tuple is known of those that match it
found_alike : (find : Key → Option Rec) (own t : Tuple) → matches own t ≡ true → find (key_of own) ≡ find (key_of t)
found_alike find own t m = ap find (same_key (key_of own) (key_of t) (keys_match own t ∙ m))

pub settled_new : (find found : Key → Option Rec) (own t : Tuple) → found (key_of t) ≡ cond (key_eq (key_of own) (key_of t)) None (find (key_of t))
    → option_map_or Est (found (key_of t)) New ≡ settled (matches own t) New (option_map_or Est (find (key_of t)) New)
settled_new find found own t e = to_new (find (key_of t)) (found (key_of t)) (matches own t) (e ∙ ap (λ b. cond b None (find (key_of t))) (keys_match own t))

pub settled_ends : (find found : Key → Option Rec) (own t : Tuple) (ends r : Rec) → find (key_of own) ≡ Some r
    → found (key_of t) ≡ cond (key_eq (key_of own) (key_of t)) (Some ends) (find (key_of t))
    → option_map_or Est (found (key_of t)) New ≡ settled (matches own t) (Est ends) (option_map_or Est (find (key_of t)) New)
settled_ends find found own t ends r known e = to_ends (find (key_of t)) (found (key_of t)) (matches own t) ends r
    (e ∙ ap (λ b. cond b (Some ends) (find (key_of t))) (keys_match own t)) (λ m. sym (found_alike find own t m) ∙ known)

pub settled_none : (find : Key → Option Rec) (own t : Tuple) (k : Kind) → find (key_of own) ≡ None
    → option_map_or Est (find (key_of t)) New ≡ settled (matches own t) k (option_map_or Est (find (key_of t)) New)
settled_none find own t k none = as_before (find (key_of t)) (matches own t) k (λ m. sym (found_alike find own t m) ∙ none)

back : (m : Bool) (old mid before : Kind) (ends : Rec) → (m ≡ true → before ≡ old) → mid ≡ first_class old (cond m (Est ends) New) → settled m before mid ≡ old
back true New mid before ends same e = ap (λ k. settled true before k) e ∙ same refl
back true (Est r) mid before ends same e = ap (λ k. settled true before k) e ∙ same refl
back false New mid before ends same e = ap (λ k. settled false before k) e
back false (Est r) mid before ends same e = ap (λ k. settled false before k) e

-- a tuple that was noted and is settled as before
pub restored : (find : Key → Option Rec) (own t : Tuple) (before mid : Kind) (ends : Rec) → before ≡ option_map_or Est (find (key_of own)) New
    → mid ≡ first_class (option_map_or Est (find (key_of t)) New) (class_by own ends t) → settled (matches own t) before mid ≡ option_map_or Est (find (key_of t)) New
restored find own t before mid ends known e = back (matches own t) (option_map_or Est (find (key_of t)) New) mid before ends
    (λ m. known ∙ ap (λ o. option_map_or Est o New) (found_alike find own t m)) e
