-- Rules that pass transits, and whole filters.
use Rattle.std.proofs.Common.{◌≡◌, ◌≢◌, ◌⊎◌, ℕ, ◌+◌, ◌<◌, Bool, true, false, Some, List, [], ◌∷◌, ◌++◌, length, slice_get, inl, inr, refl, sym, ◌∙◌, ap, subst, arith, append-nil}
use Rattle.std.proofs.lemmas.Bool.{and_from, cases_Bool, cond-false, cond-true, eq-eqb, eqb-true, false≢true}
use Rattle.std.proofs.lemmas.Option.{get_or_from_slice_get, same_Some, slice_get-get_or}
use Rattle.std.specs.List.{list_all}
use Rattle.std.specs.Prelude.{nat_eq, slice_index_or}
use Rattle.fws_net.specs.declared.outcome.Outcome.{Outcome}
use Rattle.fws_net.specs.declared.outcome.Outcome.TheVariants.{Accept, Drop}
use Rattle.fws_net.specs.declared.site.Site.{Site}
use Rattle.fws_net.specs.declared.transit.Transit.{Transit}
use Rattle.fws_pf.specs.declared.config.PfRule.{PfRule}
use Rattle.fws_pf.specs.Walk.{acted, matches, rules_walk}
use Rattle.fws_tree.specs.declared.node.Node.{Node}
use Rattle.fws_tree.specs.declared.node.Node.TheVariants.{Leaf, Cut}
use Rattle.fws_tree.specs.Plain.{Plain}
use Rattle.fws_pf_put_filter.specs.Blocks.{under, AreMoves, ArePasses, AreSound, Decide, IsAccepting, IsFine, IsPassOf}
use Rattle.fws_pf_put_filter.specs.Filters.{keeps_state, Ends, IsFilter, ReachesBelow}
use Rattle.fws_pf_print.specs.Printable.{is_printed_rule}
use Rattle.fws_pf_put_filter.specs.Rules.{accepts, accepts_leaf, block_all, passing}
use Rattle.fws_pf_put_filter.specs.States.{state_at, IsLeafNode}
use Rattle.fws_pf_put_filter.proofs.Deciding.{decided_by_state, leaf_reached, not_both, one_outcome, Known}
use Rattle.fws_pf_put_filter.proofs.Walking.{both_sound, joined, no_rules_sound, other_tag, same_tag}

-- ---- one rule

pub pass_other : (site : Site) (outward verdict : Bool) (n k : ℕ) (t : Transit) (rest : List PfRule) → n ≢ k → rules_walk site outward (passing n ∷ rest) (under k verdict t) ≡ rules_walk site outward rest (under k verdict t)
pass_other site outward verdict n k t rest ne =
    cond-false (matches site outward (passing n) (under k verdict t)) (rules_walk site outward rest (acted (passing n) (under k verdict t))) (rules_walk site outward rest (under k verdict t))
    (other_tag site outward verdict n k t [] ne)

pub pass_same : (site : Site) (outward verdict : Bool) (n : ℕ) (t : Transit) (rest : List PfRule) → rules_walk site outward (passing n ∷ rest) (under n verdict t) ≡ rules_walk site outward rest (under n true t)
pass_same site outward verdict n t rest =
    cond-true (matches site outward (passing n) (under n verdict t)) (rules_walk site outward rest (acted (passing n) (under n verdict t))) (rules_walk site outward rest (under n verdict t))
    (same_tag site outward verdict n t [])

pub pass_sound : (site : Site) (n : ℕ) → AreSound site (passing n ∷ [])
pass_sound site n = record { printed = refl; tracks = refl }

-- ---- all

pub no_passes : (site : Site) (leaves : List Outcome) (nodes : List Node) (states : List ℕ) → ArePasses site leaves nodes states 0 []
no_passes site leaves nodes states = record {
  sound = no_rules_sound site;
  pass = λ outward n verdict t rest lt is. absurd (omega (arith, lt));
  let_by = λ outward n verdict t rest not. refl;
}

pub passes_more : (site : Site) (leaves : List Outcome) (nodes : List Node) (states : List ℕ) (m : ℕ) (a b : List PfRule) → ArePasses site leaves nodes states m a → IsPassOf leaves nodes states m b
    → ArePasses site leaves nodes states (m + 1) (a ++ b)
passes_more site leaves nodes states m a b h (inl p) = record {
  sound = subst (λ l. AreSound site (a ++ l)) (sym p.0) (both_sound site a (passing m ∷ []) h.sound (pass_sound site m));
  pass = λ outward n verdict t rest lt is.
      opened outward verdict n t rest
      ∙ elim (cases_Bool (nat_eq m n)) [
        | inl y ↦ (let same : m ≡ n = eqb-true m n y in
            h.let_by outward n verdict t (passing m ∷ rest) (λ less is. absurd (omega (arith, less, same)))
            ∙ subst (λ j. rules_walk site outward (passing m ∷ rest) (under j verdict t) ≡ rules_walk site outward rest (under j true t)) same (pass_same site outward verdict m t rest))
        | inr z ↦ (let ne : m ≢ n = λ e. false≢true (sym z ∙ eq-eqb m n e) in
            h.pass outward n verdict t (passing m ∷ rest) (omega (arith, lt, ne)) is ∙ pass_other site outward true m n t rest ne)
      ];
  let_by = λ outward n verdict t rest not.
      let ne : m ≢ n = λ e. not (omega (arith, e)) (subst (λ j. IsAccepting leaves nodes states j) e p.1) in
      opened outward verdict n t rest
      ∙ h.let_by outward n verdict t (passing m ∷ rest) (λ less is. not (omega (arith, less)) is) ∙ pass_other site outward verdict m n t rest ne;
}
  where
    opened : (outward verdict : Bool) (n : ℕ) (t : Transit) (rest : List PfRule) → rules_walk site outward ((a ++ b) ++ rest) (under n verdict t) ≡ rules_walk site outward (a ++ (passing m ∷ rest)) (under n verdict t)
    opened outward verdict n t rest = joined site outward a b rest (under n verdict t) ∙ ap (λ l. rules_walk site outward (a ++ (l ++ rest)) (under n verdict t)) p.0
passes_more site leaves nodes states m a b h (inr p) = record {
  sound = subst (λ l. AreSound site (a ++ l)) (sym p.0) (both_sound site a [] h.sound (no_rules_sound site));
  pass = λ outward n verdict t rest lt is.
      opened outward verdict n t rest
      ∙ h.pass outward n verdict t rest (less n lt (λ e. p.1 (subst (λ j. IsAccepting leaves nodes states j) (sym e) is))) is;
  let_by = λ outward n verdict t rest not.
      opened outward verdict n t rest ∙ h.let_by outward n verdict t rest (λ lt is. not (omega (arith, lt)) is);
}
  where
    opened : (outward verdict : Bool) (n : ℕ) (t : Transit) (rest : List PfRule) → rules_walk site outward ((a ++ b) ++ rest) (under n verdict t) ≡ rules_walk site outward (a ++ rest) (under n verdict t)
    opened outward verdict n t rest = joined site outward a b rest (under n verdict t) ∙ ap (λ l. rules_walk site outward (a ++ (l ++ rest)) (under n verdict t)) p.0

    less : (n : ℕ) → n < m + 1 → (m ≡ n → ⊥) → n < m
    less n lt ne = omega (arith, lt, ne)

-- ---- filters

-- rules that pass what accepting states have decide for leaves
passes_decide : (site : Site) (tops : List ℕ) (tree : Plain Outcome) (leaves : List Outcome) (nodes : List Node) (states : List ℕ) → Known site tops tree leaves nodes states
    → (block : List PfRule) → ArePasses site leaves nodes states (length nodes) block → Decide site tops leaves nodes states 0 block
passes_decide site tops tree leaves nodes states known block h = record {
  done = λ outward n t inside own is fine. of_leaf outward n t inside own fine is;
  late = λ outward n f kids t le there. ended outward n t ∙ h.let_by outward n false t [] (λ lt is. not_both leaves nodes n f kids (Accept is.to) is.leaf there);
}
  where
    ended : (outward : Bool) (n : ℕ) (t : Transit) → rules_walk site outward block (under n false t) ≡ rules_walk site outward (block ++ []) (under n false t)
    ended outward n t = ap (λ l. rules_walk site outward l (under n false t)) (sym (append-nil block))

    of_outcome : (outward : Bool) (n : ℕ) (t : Transit) → n < length nodes → state_at states n ≡ n → (w : Outcome) → IsLeafNode leaves nodes n w → Ends leaves nodes states w t (rules_walk site outward block (under n false t))
    of_outcome outward n t inside own Drop leaf = ended outward n t ∙ h.let_by outward n false t [] (λ lt is. dropped is leaf)
      where
        dropped : IsAccepting leaves nodes states n → IsLeafNode leaves nodes n Drop → ⊥
        dropped is leaf = false≢true (ap accepts (one_outcome leaves nodes n Drop (Accept is.to) leaf is.leaf))
    of_outcome outward n t inside own (Accept v) leaf = record {
      state = n;
      own = own;
      source = (v, leaf, refl);
      passes = ended outward n t ∙ h.pass outward n false t [] inside (record { own = own; to = v; leaf = leaf });
    }

    of_leaf : (outward : Bool) (n : ℕ) (t : Transit) → n < length nodes → state_at states n ≡ n → IsFine tops nodes n outward t.packet → (n < 0) ⊎ ((w : Outcome) × IsLeafNode leaves nodes n w)
        → (w : Outcome) × ReachesBelow leaves nodes n t.packet w × Ends leaves nodes states w t (rules_walk site outward block (under n false t))
    of_leaf outward n t inside own fine (inl lt) = absurd (omega (arith, lt))
    of_leaf outward n t inside own fine (inr a) = (a.0, leaf_reached site tops tree leaves nodes states n a.0 t.packet known a.1, of_outcome outward n t inside own a.0 a.1)

pub filter_made : (site : Site) (tops : List ℕ) (tree : Plain Outcome) (leaves : List Outcome) (nodes : List Node) (states : List ℕ) → Known site tops tree leaves nodes states
    → (moves passes : List PfRule) → AreMoves site tops leaves nodes states 0 moves → ArePasses site leaves nodes states (length nodes) passes
    → IsFilter site tops leaves nodes states (block_all ∷ (moves ++ passes))
filter_made site tops tree leaves nodes states known moves passes h g = record {
  printed = and_from (is_printed_rule site block_all) (list_all (is_printed_rule site) (moves ++ passes)) refl sound.printed;
  tracks = and_from (keeps_state block_all) (list_all keeps_state (moves ++ passes)) refl sound.tracks;
  catches = refl;
  decides = λ outward n t inside tag topped comes.
      let low = known.stated.low n inside in
      let whole = h.decide passes (passes_decide site tops tree leaves nodes states known passes g) in
      let r = decided_by_state site tops tree leaves nodes states known (length nodes) (moves ++ passes) whole outward n t inside (inl (omega (arith, low, inside))) (record { topped = topped; comes = comes }) in
      (r.0, r.1, subst (λ (tags : List ℕ). Ends leaves nodes states r.0 t (rules_walk site outward (moves ++ passes) (record t { tags = tags; verdict = false }))) (sym tag) r.2);
}
  where
    sound : AreSound site (moves ++ passes)
    sound = both_sound site moves passes h.sound g.sound

-- ---- accepting nodes

pub accepting_found : (leaves : List Outcome) (nodes : List Node) (states : List ℕ) (k : ℕ) (node : Node) → slice_get nodes k ≡ Some node → ((i : ℕ) → node ≡ Leaf i → i < length leaves)
    → accepts_leaf leaves node ≡ true → state_at states k ≡ k → IsAccepting leaves nodes states k
accepting_found leaves nodes states k (Leaf i) there named e own = of_outcome (slice_index_or leaves i Drop) (slice_get-get_or leaves i Drop (named i refl)) e
  where
    of_outcome : (w : Outcome) → slice_get leaves i ≡ Some w → accepts w ≡ true → IsAccepting leaves nodes states k
    of_outcome Drop get a = absurd (false≢true a)
    of_outcome (Accept v) get a = record { own = own; to = v; leaf = (i, there, get) }
accepting_found leaves nodes states k (Cut f kids) there named e own = absurd (false≢true e)

pub accepting_not : (leaves : List Outcome) (nodes : List Node) (states : List ℕ) (k : ℕ) (node : Node) → slice_get nodes k ≡ Some node → accepts_leaf leaves node ≡ false → IsAccepting leaves nodes states k → ⊥
accepting_not leaves nodes states k node there e is =
    false≢true (sym e ∙ ap (accepts_leaf leaves) (same_Some node (Leaf is.leaf.0) (sym there ∙ is.leaf.1)) ∙ ap accepts (get_or_from_slice_get leaves is.leaf.0 (Accept is.to) Drop is.leaf.2))
