-- What flows to nodes.
use Rattle.std.proofs.Common.{◌≡◌, ℕ, ◌+◌, ◌<◌, Bool, true, false, ◌&&◌, cond, nat_eq, refl, ◌∙◌, Some, List, length, get_or, set, take, slice_get, inl, inr, sym, subst}
use Rattle.std.proofs.lemmas.Bool.{cases_eq, cond_both, cond-true, eqb-true, and_from}
use Rattle.std.proofs.lemmas.List.{get_or-set_same, get_or-set_other}
use Rattle.std.proofs.lemmas.List.Elements.{All-from_recursion, All-get_or, All-weaker, All-more}
use Rattle.std.specs.List.{AllByRecursion}
use Rattle.std.specs.Prelude.{All}
use Rattle.fws_iv.specs.declared.iv.Iv.{Iv}
use Rattle.fws_iv.specs.Ivs.{has}
use Rattle.fws_tree.specs.declared.node.Kid.{Kid}
use Rattle.fws_tree.specs.declared.node.Node.{Node}
use Rattle.fws_tree.specs.declared.node.Node.TheVariants.{Leaf, Cut}
use Rattle.fws_ipt_put_chains.specs.declared.coming.Coming.{Coming}
use Rattle.fws_ipt_put_chains.specs.Comings.{both, narrowed, coming_at, IsCovered, Flows}
use Rattle.fws_ipt_put_chains.specs.Pieces.{may_come}

pub covered-self : (c : Coming) → IsCovered c c
covered-self c = record { tcp = λ h. h; udp = λ h. h }

pub covered-then : (a b c : Coming) → IsCovered a b → IsCovered b c → IsCovered a c
covered-then a b c f g = record { tcp = λ h. g.tcp (f.tcp h); udp = λ h. g.udp (f.udp h) }

-- where one grows, all are covered
pub covered-set : (cs : List Coming) (k : ℕ) (j : Coming) (n : ℕ) → k < length cs → IsCovered (coming_at cs k) j → IsCovered (coming_at cs n) (coming_at (set cs k j) n)
covered-set cs k j n lt h = elim (cases_eq n k) [
  | inl e ↦ (let P : ℕ → Type 0 = λ i. IsCovered (coming_at cs i) (coming_at (set cs k j) i) in
      subst P (sym e) (subst (λ d. IsCovered (coming_at cs k) d) (sym (get_or-set_same cs k j both lt)) h))
  | inr ne ↦ subst (λ d. IsCovered (coming_at cs n) d) (sym (get_or-set_other cs k n j both ne)) (covered-self (coming_at cs n))
]

pub below_at : (kids : List Kid) (n i : ℕ) (kid : Kid) → AllByRecursion (λ kid. kid.node < n) kids → i < length kids → kid ≡ get_or kids i kid → kid.node < n
below_at kids n i kid h lt is = subst (λ k. k.node < n) (sym is) (All-get_or (λ k. k.node < n) kids i kid lt (All-from_recursion (λ k. k.node < n) kids h))

-- one kid more has what flows to it
pub flows_step : (now : List Coming) (f i : ℕ) (here y : Coming) (kids : List Kid) (kid : Kid) → kid.node < length now → i < length kids → kid ≡ get_or kids i kid
    → IsCovered (coming_at now kid.node) y → IsCovered (narrowed f kid.set here) y
    → All (λ k. IsCovered (narrowed f k.set here) (coming_at now k.node)) (take i kids)
    → All (λ k. IsCovered (narrowed f k.set here) (coming_at (set now kid.node y) k.node)) (take (i + 1) kids)
flows_step now f i here y kids kid below lt is old new all =
    let P : Kid → Type 0 = λ k. IsCovered (narrowed f k.set here) (coming_at (set now kid.node y) k.node) in
    All-more P kids i kid lt
    (All-weaker (λ k. IsCovered (narrowed f k.set here) (coming_at now k.node)) P
    (λ k h. covered-then (narrowed f k.set here) (coming_at now k.node) (coming_at (set now kid.node y) k.node) h (covered-set now kid.node y k.node below old)) (take i kids) all)
    (subst P is (subst (λ d. IsCovered (narrowed f kid.set here) d) (sym (get_or-set_same now kid.node y both below)) new))

-- what flows on from one node leaves what flowed from later ones
pub flows_kept : (nodes : List Node) (old new : List Coming) (k : ℕ) → coming_at new k ≡ coming_at old k → ((n : ℕ) → IsCovered (coming_at old n) (coming_at new n)) → Flows nodes old k → Flows nodes new k
flows_kept nodes old new k same grows h = λ f ks is.
    All-weaker (λ kid. IsCovered (narrowed f kid.set (coming_at old k)) (coming_at old kid.node)) (λ kid. IsCovered (narrowed f kid.set (coming_at new k)) (coming_at new kid.node))
    (λ kid c. covered-then (narrowed f kid.set (coming_at new k)) (coming_at old kid.node) (coming_at new kid.node)
    (subst (λ d. IsCovered (narrowed f kid.set d) (coming_at old kid.node)) (sym same) c) (grows kid.node)) ks (h f ks is)

pub flows_cut : (nodes : List Node) (old new : List Coming) (k f : ℕ) (ks : List Kid) → slice_get nodes k ≡ Some (Cut f ks) → coming_at new k ≡ coming_at old k
    → All (λ kid. IsCovered (narrowed f kid.set (coming_at old k)) (coming_at new kid.node)) ks → Flows nodes new k
flows_cut nodes old new k f ks at same h = λ g ls is.
    let e : Some (Cut f ks) ≡ Some (Cut g ls) = sym at ∙ is in
    let fe : f ≡ g = cc in
    let ke : ks ≡ ls = cc in
    let here = subst (λ d. All (λ kid. IsCovered (narrowed f kid.set d) (coming_at new kid.node)) ks) (sym same) h in
    subst (λ l. All (λ kid. IsCovered (narrowed g kid.set (coming_at new k)) (coming_at new kid.node)) l) ke
    (subst (λ n. All (λ kid. IsCovered (narrowed n kid.set (coming_at new k)) (coming_at new kid.node)) ks) fe here)

pub flows_leaf : (nodes : List Node) (cs : List Coming) (k n : ℕ) → slice_get nodes k ≡ Some (Leaf n) → Flows nodes cs k
flows_leaf nodes cs k n at = λ f ks is. let e : Some (Leaf n) ≡ Some (Cut f ks) = sym at ∙ is in absurd (cc)

-- ---- what comes

pub may_narrow : (f : ℕ) (set : List Iv) (c : Coming) (proto : ℕ) → (nat_eq f 1 ≡ true → has set proto ≡ true) → may_come c proto ≡ true → may_come (narrowed f set c) proto ≡ true
may_narrow f set c proto h e = cond_both (nat_eq f 1) (record { tcp = c.tcp && has set 6; udp = c.udp && has set 17 }) c (λ d. may_come d proto ≡ true)
    (λ y. let m = h y in
    cond_both (nat_eq proto 6) (c.tcp && has set 6) (cond (nat_eq proto 17) (c.udp && has set 17) true) (λ b. b ≡ true)
    (λ six. and_from c.tcp (has set 6) (sym (cond-true (nat_eq proto 6) c.tcp (cond (nat_eq proto 17) c.udp true) six) ∙ e) (subst (λ n. has set n ≡ true) (eqb-true proto 6 six) m))
    (λ no. cond_both (nat_eq proto 17) (c.udp && has set 17) true (λ b. b ≡ true)
    (λ udp. and_from c.udp (has set 17) (of_udp (nat_eq proto 6) (nat_eq proto 17) c.tcp c.udp no udp e) (subst (λ n. has set n ≡ true) (eqb-true proto 17 udp) m))
    (λ n. refl)))
    (λ n. e)
  where
    of_udp : (a b x y : Bool) → a ≡ false → b ≡ true → cond a x (cond b y true) ≡ true → y ≡ true
    of_udp true b x y p q e = absurd (cc)
    of_udp false true x y p q e = e
    of_udp false false x y p q e = absurd (cc)

pub may_cover : (c d : Coming) (proto : ℕ) → IsCovered c d → may_come c proto ≡ true → may_come d proto ≡ true
may_cover c d proto h e = both (nat_eq proto 6) (nat_eq proto 17) c.tcp d.tcp c.udp d.udp h.tcp h.udp e
  where
    both : (a b x x' y y' : Bool) → (x ≡ true → x' ≡ true) → (y ≡ true → y' ≡ true) → cond a x (cond b y true) ≡ true → cond a x' (cond b y' true) ≡ true
    both true b x x' y y' f g e = f e
    both false true x x' y y' f g e = g e
    both false false x x' y y' f g e = refl

-- where both may come, all do
pub all_come : (coming : Coming) → IsCovered both coming → (proto : ℕ) → may_come coming proto ≡ true
all_come coming h proto = may_cover both coming proto h
    (cond_both (nat_eq proto 6) true (cond (nat_eq proto 17) true true) (λ b. b ≡ true) (λ y. refl) (λ n. cond_both (nat_eq proto 17) true true (λ b. b ≡ true) (λ y. refl) (λ n'. refl)))
