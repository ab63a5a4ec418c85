-- Filters, from their end to their beginning.
use Rattle.std.proofs.Common.{◌≡◌, ◌≢◌, ◌⊎◌, ℕ, zero, suc, ◌+◌, ◌<◌, Bool, true, false, Option, Some, None, List, [], ◌∷◌, ◌++◌, length, get_or, slice_get, inl, inr, refl, sym, ◌∙◌, ap, subst, arith, append_assoc}
use Rattle.std.proofs.lemmas.Bool.{cases_Bool, eqb-true, eq-eqb, false≢true}
use Rattle.std.proofs.lemmas.Option.{none-some, same_Some, slice_get-get_or, slice_get_within}
use Rattle.std.specs.Prelude.{nat_eq, All}
use Rattle.fws_net.specs.declared.outcome.End.{End}
use Rattle.fws_net.specs.declared.outcome.Outcome.{Outcome}
use Rattle.fws_net.specs.declared.outcome.Outcome.TheVariants.{Accept, Drop}
use Rattle.fws_net.specs.declared.packet.Packet.{Packet}
use Rattle.fws_net.specs.declared.site.Site.{Site}
use Rattle.fws_net.specs.declared.transit.Transit.{Transit}
use Rattle.fws_net.specs.Points.{tops_of}
use Rattle.fws_pf.specs.declared.config.PfRule.{PfRule}
use Rattle.fws_pf.specs.Walk.{rules_walk}
use Rattle.fws_tree.specs.declared.node.Kid.{Kid}
use Rattle.fws_tree.specs.declared.node.Node.{Node}
use Rattle.fws_tree.specs.declared.node.Node.TheVariants.{Leaf, Cut}
use Rattle.fws_tree.specs.Plain.{Plain, branch}
use Rattle.fws_tree.specs.Shared.{IsShared}
use Rattle.fws_tree_seen.specs.declared.seen.Seen.TheVariants.{Entered}
use Rattle.fws_tree_seen.specs.NodeLaws.{CutNodesPartValues, LeafNodesAreLeaves}
use Rattle.fws_tree_seen.specs.Reached.{IsTopped, Reaches}
use Rattle.fws_tree_seen.specs.SightLaws.{SeenFieldsAgree, UnseenFieldsAreOpen}
use Rattle.fws_pf_put_filter.specs.Blocks.{under, AreMoves, AreSound, Decide, IsCutBlock, IsDone, IsFine, IsMoved, IsNodeBlock, KeepsEntry}
use Rattle.fws_pf_put_filter.specs.Filters.{ComesIn, Ends, IsPassed, ReachesBelow}
use Rattle.fws_pf_put_filter.specs.Planned.{IsPlanned}
use Rattle.fws_pf_put_filter.specs.States.{state_at, AgreeInSource, AreStates, IsLeafNode}
use Rattle.fws_pf_put_filter.proofs.Leading.{kid_before, kid_keeps, some_way, Laws}
use Rattle.fws_pf_put_filter.proofs.Walking.{both_sound, no_rules_sound}

-- what is known of a tree
pub record Known (site : Site) (tops : List ℕ) (t : Plain Outcome) (leaves : List Outcome) (nodes : List Node) (states : List ℕ) : Type 0 where
  pub laws : Laws
  pub tops_are : tops ≡ tops_of site
  pub shared : IsShared tops t leaves nodes
  pub stated : AreStates leaves nodes states

pub known_of : (agree : SeenFieldsAgree) (unseen : UnseenFieldsAreOpen) (cuts : CutNodesPartValues Outcome) (leaf_laws : LeafNodesAreLeaves Outcome) (site : Site) (tops : List ℕ) (t : Plain Outcome) (leaves : List Outcome) (nodes : List Node) (states : List ℕ)
    → IsPlanned site tops t leaves nodes states → Known site tops t leaves nodes states
known_of agree unseen cuts leaf_laws site tops t leaves nodes states plan = record {
  laws = record { agree = agree; unseen = unseen; cuts = cuts; leaves = leaf_laws };
  tops_are = plan.tops_are;
  shared = plan.shared;
  stated = plan.stated;
}

-- ---- outcomes that agree in the source

agree_refl : (w : Outcome) → AgreeInSource w w
agree_refl Drop = tt
agree_refl (Accept v) = refl

-- a transit ends alike for outcomes that agree
ends_alike : (leaves : List Outcome) (nodes : List Node) (states : List ℕ) (v w : Outcome) (t : Transit) (r : Option Transit) → AgreeInSource v w → Ends leaves nodes states w t r → Ends leaves nodes states v t r
ends_alike leaves nodes states Drop Drop t r a h = h
ends_alike leaves nodes states Drop (Accept w) t r a h = absurd a
ends_alike leaves nodes states (Accept v) Drop t r a h = absurd a
ends_alike leaves nodes states (Accept v) (Accept w) t r a h = subst (λ (src : Option End). IsPassed leaves nodes states src t r) (sym a) h

ends_same : (leaves : List Outcome) (nodes : List Node) (states : List ℕ) (w : Outcome) (t : Transit) (r s : Option Transit) → s ≡ r → Ends leaves nodes states w t r → Ends leaves nodes states w t s
ends_same leaves nodes states w t r s e h = subst (λ x. Ends leaves nodes states w t x) (sym e) h

-- what agrees with a drop is one
drop_alone : (leaves : List Outcome) (nodes : List Node) (states : List ℕ) (v : Outcome) (t : Transit) (r : Option Transit) → AgreeInSource v Drop → r ≡ None → Ends leaves nodes states v t r
drop_alone leaves nodes states Drop t r a e = e
drop_alone leaves nodes states (Accept v) t r a e = absurd a

-- ---- leaves

-- a leaf isn't a cut
pub not_both : (leaves : List Outcome) (nodes : List Node) (n f : ℕ) (kids : List Kid) (w : Outcome) → IsLeafNode leaves nodes n w → slice_get nodes n ≡ Some (Cut f kids) → ⊥
not_both leaves nodes n f kids w leaf there = clash leaf.0 (same_Some (Leaf leaf.0) (Cut f kids) (sym leaf.1 ∙ there))
  where
    is_leaf : Node → Bool
    is_leaf (Leaf i) = true
    is_leaf (Cut f kids) = false

    clash : (i : ℕ) → Leaf i ≡ Cut f kids → ⊥
    clash i e = false≢true (sym (ap is_leaf e))

pub leaf_reached : (site : Site) (tops : List ℕ) (t : Plain Outcome) (leaves : List Outcome) (nodes : List Node) (states : List ℕ) (n : ℕ) (w : Outcome) (p : Packet) → Known site tops t leaves nodes states
    → IsLeafNode leaves nodes n w → ReachesBelow leaves nodes n p w
leaf_reached site tops t leaves nodes states n w p known leaf =
    let is = known.laws.leaves tops t leaves nodes n leaf.0 known.shared leaf.1 in
    let same : is.0 ≡ w = same_Some is.0 w (sym is.1 ∙ leaf.2) in
    subst (λ u. Reaches Entered p (branch 0 u p.entry) w) (sym is.2) same

-- what is reached below a leaf is its outcome
leaf_alone : (site : Site) (tops : List ℕ) (t : Plain Outcome) (leaves : List Outcome) (nodes : List Node) (states : List ℕ) (n : ℕ) (v w : Outcome) (p : Packet) → Known site tops t leaves nodes states
    → IsLeafNode leaves nodes n v → ReachesBelow leaves nodes n p w → v ≡ w
leaf_alone site tops t leaves nodes states n v w p known leaf h =
    let is = known.laws.leaves tops t leaves nodes n leaf.0 known.shared leaf.1 in
    let same : is.0 ≡ v = same_Some is.0 v (sym is.1 ∙ leaf.2) in
    sym same ∙ subst (λ u. Reaches Entered p (branch 0 u p.entry) w) is.2 h

-- a leaf has one outcome
pub one_outcome : (leaves : List Outcome) (nodes : List Node) (n : ℕ) (v w : Outcome) → IsLeafNode leaves nodes n v → IsLeafNode leaves nodes n w → v ≡ w
one_outcome leaves nodes n v w a b =
    same_Some v w (sym a.2 ∙ ap (λ i. slice_get leaves i) (ap place (same_Some (Leaf a.0) (Leaf b.0) (sym a.1 ∙ b.1))) ∙ b.2)
  where
    place : Node → ℕ
    place (Leaf i) = i
    place (Cut f kids) = 0

-- a node is a leaf or a cut
pub leaf_or_cut : (tops : List ℕ) (t : Plain Outcome) (leaves : List Outcome) (nodes : List Node) (n : ℕ) → Laws → IsShared tops t leaves nodes → n < length nodes
    → ((w : Outcome) × IsLeafNode leaves nodes n w) ⊎ ((f : ℕ) × (kids : List Kid) × (slice_get nodes n ≡ Some (Cut f kids)))
leaf_or_cut tops t leaves nodes n laws shared inside = by_node (get_or nodes n (Leaf 0)) (slice_get-get_or nodes n (Leaf 0) inside)
  where
    by_node : (node : Node) → slice_get nodes n ≡ Some node → ((w : Outcome) × IsLeafNode leaves nodes n w) ⊎ ((f : ℕ) × (kids : List Kid) × (slice_get nodes n ≡ Some (Cut f kids)))
    by_node (Leaf i) there = let is = laws.leaves tops t leaves nodes n i shared there in inl (is.0, (i, there, is.1))
    by_node (Cut f kids) there = inr (f, kids, there)

-- ---- states

kid_state : (states : List ℕ) (kids : List Kid) (s : ℕ) → All (λ kid. state_at states kid.node ≡ s) kids → (i : ℕ) (kid : Kid) → slice_get kids i ≡ Some kid → state_at states kid.node ≡ s
kid_state states kids s all i kid there = subst (λ (k : Kid). state_at states k.node ≡ s) (read kids i kid there) (all i kid (slice_get_within kids i kid there))
  where
    read : (kids : List Kid) (i : ℕ) (kid : Kid) → slice_get kids i ≡ Some kid → get_or kids i kid ≡ kid
    read [] zero kid e = absurd (none-some kid e)
    read [] (suc i) kid e = absurd (none-some kid e)
    read (k ∷ kids) zero kid e = same_Some k kid e
    read (k ∷ kids) (suc i) kid e = read kids i kid e

-- a node and its state decide alike
pub state_reached : (site : Site) (tops : List ℕ) (t : Plain Outcome) (leaves : List Outcome) (nodes : List Node) (states : List ℕ) (outward : Bool) (p : Packet) (w : Outcome) → Known site tops t leaves nodes states → IsTopped tops Entered p
    → (m n : ℕ) → n < m → n < length nodes → ComesIn tops nodes n outward p → ReachesBelow leaves nodes (state_at states n) p w → (v : Outcome) × ReachesBelow leaves nodes n p v × AgreeInSource v w
state_reached site tops t leaves nodes states outward p w known topped zero n lt inside comes h = absurd (omega (arith, lt))
state_reached site tops t leaves nodes states outward p w known topped (suc m) n lt inside comes h = elim (leaf_or_cut tops t leaves nodes n known.laws known.shared inside) [
  | inl a ↦ (let s = known.stated.leaf n a.0 a.1 in
      let same : s.0 ≡ w = leaf_alone site tops t leaves nodes states (state_at states n) s.0 w p known s.1 h in
      (a.0, leaf_reached site tops t leaves nodes states n a.0 p known a.1, subst (λ x. AgreeInSource a.0 x) same s.2))
  | inr b ↦ elim (known.stated.cut n b.0 b.1 b.2) [
    | inl own ↦ (w, subst (λ k. ReachesBelow leaves nodes k p w) own h, agree_refl w)
    | inr all ↦ (let way = some_way known.laws site tops t leaves nodes n b.0 b.1 outward p known.tops_are known.shared inside b.2 (record { topped = topped; comes = comes }) in
        let k : ℕ = way.1.node in
        let before = way.3.before in
        let keeps = way.3.keeps in
        let same : state_at states k ≡ state_at states n = kid_state states b.1 (state_at states n) all way.0 way.1 way.2 in
        let r = state_reached site tops t leaves nodes states outward p w known topped m k (omega (arith, before, lt)) (omega (arith, before, inside))
        (λ kids there. absurd (keeps kids there)) (subst (λ j. ReachesBelow leaves nodes j p w) (sym same) h) in
        (r.0, way.3.reached r.0 r.1, r.2))
  ]
]

-- the state of a node that doesn't cut the entry doesn't either, and that of another node only if it is the node
pub state_keeps : (site : Site) (tops : List ℕ) (t : Plain Outcome) (leaves : List Outcome) (nodes : List Node) (states : List ℕ) → Known site tops t leaves nodes states
    → (m n : ℕ) → n < m → n < length nodes → (state_at states n ≡ n) ⊎ KeepsEntry nodes (state_at states n)
state_keeps site tops t leaves nodes states known zero n lt inside = absurd (omega (arith, lt))
state_keeps site tops t leaves nodes states known (suc m) n lt inside = elim (leaf_or_cut tops t leaves nodes n known.laws known.shared inside) [
  | inl a ↦ (let s = known.stated.leaf n a.0 a.1 in inr (λ kids there. not_both leaves nodes (state_at states n) 0 kids s.0 s.1 there))
  | inr b ↦ elim (known.stated.cut n b.0 b.1 b.2) [
    | inl own ↦ inl own
    | inr all ↦ (let node = known.laws.cuts tops t leaves nodes n b.0 b.1 known.shared b.2 in
        let many = node.many in
        let kid = get_or b.1 0 (record { set = []; node = 0 }) in
        let at : slice_get b.1 0 ≡ Some kid = slice_get-get_or b.1 0 (record { set = []; node = 0 }) (omega (arith, many)) in
        let before = kid_before tops leaves nodes n b.0 b.1 node 0 kid at in
        let keeps = kid_keeps tops leaves nodes n b.0 b.1 node 0 kid at in
        let same : state_at states kid.node ≡ state_at states n = kid_state states b.1 (state_at states n) all 0 kid at in
        elim (state_keeps site tops t leaves nodes states known m kid.node (omega (arith, before, lt)) (omega (arith, before, inside))) [
          | inl own ↦ inr (subst (λ j. KeepsEntry nodes j) (sym own ∙ same) keeps)
          | inr more ↦ inr (subst (λ j. KeepsEntry nodes j) same more)
        ])
  ]
]

-- a packet comes to the state of a node as it comes to the node
pub state_comes : (site : Site) (tops : List ℕ) (t : Plain Outcome) (leaves : List Outcome) (nodes : List Node) (states : List ℕ) (outward : Bool) (p : Packet) → Known site tops t leaves nodes states
    → (n : ℕ) → n < length nodes → ComesIn tops nodes n outward p → ComesIn tops nodes (state_at states n) outward p
state_comes site tops t leaves nodes states outward p known n inside comes = elim (state_keeps site tops t leaves nodes states known (n + 1) n (omega arith) inside) [
  | inl own ↦ subst (λ k. ComesIn tops nodes k outward p) (sym own) comes
  | inr keeps ↦ (λ kids there. absurd (keeps kids there))
]

-- ---- one node more

-- where rules decide for states, they decide for all nodes
pub decided_by_state : (site : Site) (tops : List ℕ) (tree : Plain Outcome) (leaves : List Outcome) (nodes : List Node) (states : List ℕ) → Known site tops tree leaves nodes states
    → (m : ℕ) (rules : List PfRule) → Decide site tops leaves nodes states m rules → (outward : Bool) (n : ℕ) (t : Transit) → n < length nodes → IsDone leaves nodes m (state_at states n) → IsFine tops nodes n outward t.packet
    → (w : Outcome) × ReachesBelow leaves nodes n t.packet w × Ends leaves nodes states w t (rules_walk site outward rules (under (state_at states n) false t))
decided_by_state site tops tree leaves nodes states known m rules h outward n t inside done fine =
    let low = known.stated.low n inside in
    let r = h.done outward (state_at states n) t (omega (arith, low, inside)) (known.stated.own n inside) done
    (record { topped = fine.topped; comes = state_comes site tops tree leaves nodes states outward t.packet known n inside fine.comes }) in
    let s = state_reached site tops tree leaves nodes states outward t.packet r.0 known fine.topped (n + 1) n (omega arith) inside fine.comes r.1 in
    (s.0, s.1, ends_alike leaves nodes states s.0 r.0 t _ s.2 r.2)

cut_more : (site : Site) (tops : List ℕ) (tree : Plain Outcome) (leaves : List Outcome) (nodes : List Node) (states : List ℕ) → Known site tops tree leaves nodes states
    → (k : ℕ) (block rest : List PfRule) → k < length nodes → IsCutBlock site tops leaves nodes states k block → Decide site tops leaves nodes states k rest → (f : ℕ) (kids : List Kid) → slice_get nodes k ≡ Some (Cut f kids)
    → (outward : Bool) (t : Transit) → IsFine tops nodes k outward t.packet
    → (w : Outcome) × ReachesBelow leaves nodes k t.packet w × Ends leaves nodes states w t (rules_walk site outward (block ++ rest) (under k false t))
cut_more site tops tree leaves nodes states known k block rest inside made h f kids there outward t fine =
    let moved = made.moves outward t fine in
    let kid : ℕ = moved.kid in
    let before = moved.led.before in
    let keeps = moved.led.keeps in
    let low = known.stated.low kid (omega (arith, before, inside)) in
    let own : IsFine tops nodes kid outward t.packet = record { topped = fine.topped; comes = λ ks cut. absurd (keeps ks cut) } in
    elim (moved.goes rest) [
      | inl e ↦ (let r = decided_by_state site tops tree leaves nodes states known k rest h outward kid t (omega (arith, before, inside)) (inl (omega (arith, low, before))) own in
          (r.0, moved.led.reached r.0 r.1, ends_same leaves nodes states r.0 t _ _ e r.2))
      | inr e ↦ (let r = state_reached site tops tree leaves nodes states outward t.packet Drop known fine.topped (kid + 1) kid (omega arith) (omega (arith, before, inside)) own.comes
          (leaf_reached site tops tree leaves nodes states (state_at states kid) Drop t.packet known e.0) in
          (r.0, moved.led.reached r.0 r.1, drop_alone leaves nodes states r.0 t _ r.2 (e.1 ∙ h.late outward k f kids t (omega arith) there)))
    ]

-- rules of a node ahead of rules that decide below it
block_more : (site : Site) (tops : List ℕ) (tree : Plain Outcome) (leaves : List Outcome) (nodes : List Node) (states : List ℕ) → Known site tops tree leaves nodes states
    → (k : ℕ) (block rest : List PfRule) → k < length nodes → IsCutBlock site tops leaves nodes states k block → Decide site tops leaves nodes states k rest → Decide site tops leaves nodes states (k + 1) (block ++ rest)
block_more site tops tree leaves nodes states known k block rest inside made h = record {
  done = λ outward n t within own is fine. elim (cases_Bool (nat_eq k n)) [
    | inl y ↦ (let same : k ≡ n = eqb-true k n y in
        subst (λ j. (w : Outcome) × ReachesBelow leaves nodes j t.packet w × Ends leaves nodes states w t (rules_walk site outward (block ++ rest) (under j false t))) same
        (at outward t (subst (λ j. IsFine tops nodes j outward t.packet) (sym same) fine)))
    | inr z ↦ (let ne : k ≢ n = λ e. false≢true (sym z ∙ eq-eqb k n e) in
        let r = h.done outward n t within own (lower n ne is) fine in
        (r.0, r.1, ends_same leaves nodes states r.0 t _ _ (made.lets_by outward n t rest ne) r.2))
  ];
  late = λ outward n f kids t le there.
      let ne : k ≢ n = λ e. absurd (omega (arith, e, le)) in made.lets_by outward n t rest ne ∙ h.late outward n f kids t (omega (arith, le)) there;
}
  where
    lower : (n : ℕ) → k ≢ n → IsDone leaves nodes (k + 1) n → IsDone leaves nodes k n
    lower n ne (inl lt) = inl (omega (arith, lt, ne))
    lower n ne (inr leaf) = inr leaf

    at : (outward : Bool) (t : Transit) → IsFine tops nodes k outward t.packet
        → (w : Outcome) × ReachesBelow leaves nodes k t.packet w × Ends leaves nodes states w t (rules_walk site outward (block ++ rest) (under k false t))
    at outward t fine = elim (leaf_or_cut tops tree leaves nodes k known.laws known.shared inside) [
      | inl a ↦ (let moved = made.moves outward t fine in absurd (no_kid a moved))
      | inr b ↦ cut_more site tops tree leaves nodes states known k block rest inside made h b.0 b.1 b.2 outward t fine
    ]
      where
        no_kid : (w : Outcome) × IsLeafNode leaves nodes k w → IsMoved site leaves nodes states k outward t block → ⊥
        no_kid a moved = made.cut a.0 a.1

-- a node that has no rules
none_more : (site : Site) (tops : List ℕ) (tree : Plain Outcome) (leaves : List Outcome) (nodes : List Node) (states : List ℕ) → Known site tops tree leaves nodes states
    → (k : ℕ) (rest : List PfRule) → k < length nodes → ((f : ℕ) (kids : List Kid) → slice_get nodes k ≡ Some (Cut f kids) → state_at states k ≢ k)
    → Decide site tops leaves nodes states k rest → Decide site tops leaves nodes states (k + 1) rest
none_more site tops tree leaves nodes states known k rest inside other h = record {
  done = λ outward n t within own is fine. h.done outward n t within own (lower n within own is) fine;
  late = λ outward n f kids t le there. h.late outward n f kids t (omega (arith, le)) there;
}
  where
    lower : (n : ℕ) → n < length nodes → state_at states n ≡ n → IsDone leaves nodes (k + 1) n → IsDone leaves nodes k n
    lower n within own (inr leaf) = inr leaf
    lower n within own (inl lt) = elim (leaf_or_cut tops tree leaves nodes n known.laws known.shared within) [
      | inl a ↦ inr a
      | inr b ↦ inl (before n lt (λ e. other b.0 b.1 (ap (λ j. slice_get nodes j) e ∙ b.2) (ap (λ j. state_at states j) e ∙ own ∙ sym e)))
    ]
      where
        before : (n : ℕ) → n < k + 1 → (k ≡ n → ⊥) → n < k
        before n lt ne = omega (arith, lt, ne)

-- ---- all nodes

pub no_moves : (site : Site) (tops : List ℕ) (leaves : List Outcome) (nodes : List Node) (states : List ℕ) → AreMoves site tops leaves nodes states (length nodes) []
no_moves site tops leaves nodes states = record {
  sound = no_rules_sound site;
  decide = λ rest h. h;
}

pub moves_more : (site : Site) (tops : List ℕ) (tree : Plain Outcome) (leaves : List Outcome) (nodes : List Node) (states : List ℕ) → Known site tops tree leaves nodes states
    → (k m : ℕ) (a b : List PfRule) → m ≡ k + 1 → k < length nodes → AreMoves site tops leaves nodes states m a → IsNodeBlock site tops leaves nodes states k b → AreMoves site tops leaves nodes states k (a ++ b)
moves_more site tops tree leaves nodes states known k m a b next inside h (inl n) = record {
  sound = subst (λ l. AreSound site (a ++ l)) (sym n.0) (both_sound site a [] h.sound (no_rules_sound site));
  decide = λ rest g. subst (λ l. Decide site tops leaves nodes states (length nodes) l) (sym (ap (λ l. (a ++ l) ++ rest) n.0 ∙ append_assoc a [] rest))
      (h.decide rest (subst (λ j. Decide site tops leaves nodes states j rest) (sym next) (none_more site tops tree leaves nodes states known k rest inside n.1 g)));
}
moves_more site tops tree leaves nodes states known k m a b next inside h (inr made) = record {
  sound = both_sound site a b h.sound made.sound;
  decide = λ rest g. subst (λ l. Decide site tops leaves nodes states (length nodes) l) (sym (append_assoc a b rest))
      (h.decide (b ++ rest) (subst (λ j. Decide site tops leaves nodes states j (b ++ rest)) (sym next) (block_more site tops tree leaves nodes states known k b rest inside made g)));
}
