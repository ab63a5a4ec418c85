-- The rules of a cut move transits on.
use Rattle.std.proofs.Common.{◌≡◌, ◌≢◌, ℕ, ◌+◌, ◌<◌, ◌≤◌, Bool, true, false, not, Option, Some, None, List, ◌++◌, length, slice_get, inl, inr, refl, sym, ◌∙◌, ap, subst, arith}
use Rattle.std.proofs.lemmas.Bool.{cases_Bool, cond-false, cond-true, eqb-true, false≢true, false_from_ne_true}
use Rattle.std.proofs.lemmas.Option.{same_Some, none-some}
use Rattle.std.specs.Option.{option_map}
use Rattle.std.specs.Prelude.{nat_eq, slice_index}
use Rattle.fws_net.specs.declared.outcome.Outcome.{Outcome}
use Rattle.fws_net.specs.declared.outcome.Outcome.TheVariants.{Drop}
use Rattle.fws_net.specs.declared.site.Site.{Site}
use Rattle.fws_net.specs.declared.transit.Transit.{Transit}
use Rattle.fws_net.specs.Showing.{receiving}
use Rattle.fws_pf.specs.declared.config.PfRule.{PfRule}
use Rattle.fws_pf.specs.declared.config.Way.TheVariants.{Both}
use Rattle.fws_pf.specs.Walk.{is_met, rules_walk, view_on}
use Rattle.fws_tree.specs.declared.node.Kid.{Kid}
use Rattle.fws_tree.specs.declared.node.Node.{Node}
use Rattle.fws_tree.specs.declared.node.Node.TheVariants.{Cut}
use Rattle.fws_tree.specs.Plain.{Plain}
use Rattle.fws_tree_seen.specs.declared.field.PacketField.{PacketField}
use Rattle.fws_tree_seen.specs.declared.seen.Seen.TheVariants.{Entered}
use Rattle.fws_tree_seen.specs.Fields.{top_of}
use Rattle.fws_tree_seen.specs.Shown.{seen_field, value_of}
use Rattle.fws_tree_seen.specs.SightLaws.{Agrees}
use Rattle.fws_pf_put_filter.specs.declared.tested.Tested.{Tested}
use Rattle.fws_pf_put_filter.specs.declared.tested.Tested.TheVariants.{Entry, Field}
use Rattle.fws_pf_put_filter.specs.Blocks.{under, AreSound, IsCutBlock, IsFine, IsMoved, LeadsTo, LetsBy}
use Rattle.fws_pf_put_filter.specs.Conds.{tested_at, way_of, IsOfSite, IsViewed}
use Rattle.fws_pf_put_filter.specs.Rules.{AreTestedRules, AreUntestedRules}
use Rattle.fws_pf_put_filter.specs.States.{state_at, IsLeafNode}
use Rattle.fws_pf_put_filter.proofs.Deciding.{not_both, Known}
use Rattle.fws_pf_put_filter.proofs.Leading.{cut_ways, kid_before, AreWays, CutWays}
use Rattle.fws_pf_put_filter.proofs.Walking.{both_by, both_sound, joined, kids_by, kids_moved, kids_sound, last_by, last_moved, last_sound, AreOthers, MissesKids}

-- the states of kids stand before the node
others_before : (site : Site) (tops : List ℕ) (t : Plain Outcome) (leaves : List Outcome) (nodes : List Node) (states : List ℕ) → Known site tops t leaves nodes states
    → (n f : ℕ) (kids : List Kid) → n < length nodes → slice_get nodes n ≡ Some (Cut f kids) → AreOthers states n kids
others_before site tops t leaves nodes states known n f kids inside there = λ i kid at e.
    let before = kid_before tops leaves nodes n f kids (known.laws.cuts tops t leaves nodes n f kids known.shared there) i kid at in
    let low = known.stated.low kid.node (omega (arith, before, inside)) in absurd (omega (arith, before, low, e))

-- what is tested is seen, and the rules are met
record IsMet (tested : Tested) (site : Site) (n : ℕ) (outward : Bool) (t : Transit) : Type 0 where
  pub met : is_met (way_of tested) outward ≡ true
  pub seen : IsViewed tested (view_on site outward (under n false t))
  pub of : IsOfSite site tested

abbrev AreMet : Option Tested → Site → ℕ → Bool → Transit → Type 0
AreMet None site n outward t = Unit {0}
AreMet (Some tested) site n outward t = IsMet tested site n outward t

met_at : (site : Site) (tops : List ℕ) (tree : Plain Outcome) (leaves : List Outcome) (nodes : List Node) (states : List ℕ) → Known site tops tree leaves nodes states
    → (n f : ℕ) (kids : List Kid) → slice_get nodes n ≡ Some (Cut f kids) → (outward : Bool) (t : Transit) → IsFine tops nodes n outward t.packet → AreMet (tested_at site f) site n outward t
met_at site tops tree leaves nodes states known n f kids there outward t fine =
    elim (cases_Bool (nat_eq f 0)) [
      | inl y ↦ subst (λ o. AreMet o site n outward t) (sym (cond-true (nat_eq f 0) (Some (Entry (length site.faces + 1))) (option_map Field (seen_field Entered f)) y))
          (by_entry (fine.comes kids (there ∙ ap (λ g. Some (Cut g kids)) (eqb-true f 0 y))))
      | inr z ↦ subst (λ o. AreMet o site n outward t) (sym (cond-false (nat_eq f 0) (Some (Entry (length site.faces + 1))) (option_map Field (seen_field Entered f)) z))
          (by_field (seen_field Entered f) refl)
    ]
  where
    by_entry : (outward ≡ false) × (1 ≤ t.packet.entry) × (t.packet.entry ≤ slice_index tops 0) → IsMet (Entry (length site.faces + 1)) site n outward t
    by_entry comes =
        let some = comes.1 in
        let received : receiving t.packet ≡ Some t.packet.entry =
        cond-false (nat_eq t.packet.entry 0) None (Some t.packet.entry) (false_from_ne_true (nat_eq t.packet.entry 0) (λ e. let z : t.packet.entry ≡ 0 = eqb-true t.packet.entry 0 e in absurd (omega (arith, some, z)))) in
        record {
          met = ap not comes.0;
          seen = (comes.0, received, some, subst (λ l. t.packet.entry ≤ slice_index l 0) known.tops_are comes.2);
          of = refl;
        }

    by_field : (o : Option PacketField) → seen_field Entered f ≡ o → AreMet (option_map Field o) site n outward t
    by_field None e = tt
    by_field (Some field) e =
        let agrees : Agrees Entered f field = known.laws.agree Entered f field e in
        let top : slice_index tops f ≡ top_of field = ap (λ l. slice_index l f) known.tops_are ∙ agrees.top site in
        record {
          met = refl;
          seen = λ s. subst (λ m. value_of field t.packet ≤ m) top (fine.topped f (value_of field t.packet) (agrees.protocols t.packet.proto ∙ s) (agrees.value t.packet));
          of = tt;
        }

pub of_site : (site : Site) (f : ℕ) (tested : Tested) → tested_at site f ≡ Some tested → IsOfSite site tested
of_site site f (Entry top) e = elim (cases_Bool (nat_eq f 0)) [
  | inl y ↦ same (sym (cond-true (nat_eq f 0) (Some (Entry (length site.faces + 1))) (option_map Field (seen_field Entered f)) y) ∙ e)
  | inr z ↦ absurd (other (seen_field Entered f) (sym (cond-false (nat_eq f 0) (Some (Entry (length site.faces + 1))) (option_map Field (seen_field Entered f)) z) ∙ e))
]
  where
    number : Tested → ℕ
    number (Entry n) = n
    number (Field field) = 0

    same : Some (Entry (length site.faces + 1)) ≡ Some (Entry top) → top ≡ length site.faces + 1
    same e = sym (ap number (same_Some (Entry (length site.faces + 1)) (Entry top) e))

    is_entry : Tested → Bool
    is_entry (Entry n) = true
    is_entry (Field field) = false

    other : (o : Option PacketField) → option_map Field o ≡ Some (Entry top) → ⊥
    other None e = none-some (Entry top) e
    other (Some field) e = false≢true (ap is_entry (same_Some (Field field) (Entry top) e))
of_site site f (Field field) e = tt

-- ---- the rules of a cut

tested_moved : (site : Site) (leaves : List Outcome) (nodes : List Node) (states : List ℕ) (tested : Tested) (n : ℕ) (outward : Bool) (t : Transit) (kids : List Kid) (block : List PfRule) → AreOthers states n kids
    → AreWays leaves nodes n t.packet tested kids → IsMet tested site n outward t → AreTestedRules leaves nodes states tested n kids block → IsMoved site leaves nodes states n outward t block
tested_moved site leaves nodes states tested n outward t kids block other ways is made =
    let d : ℕ = made.default in
    let kid_of_default = made.is_kid in
    let ne : n ≢ d = λ e. other kid_of_default.0 kid_of_default.1 kid_of_default.2 (e ∙ sym kid_of_default.3) in
    let whole : (rest : List PfRule) → rules_walk site outward (block ++ rest) (under n false t) ≡ rules_walk site outward (made.tests ++ (made.last ++ rest)) (under n false t) =
    λ rest. ap (λ l. rules_walk site outward (l ++ rest) (under n false t)) made.all ∙ joined site outward made.tests made.last rest (under n false t) in
    elim (kids_moved site tested states n d outward t is.met is.seen kids made.tests other made.sorted) [
      | inl h ↦ record {
        kid = h.kid.node;
        led = ways.hit h.place h.kid h.there h.hit;
        goes = λ rest. inl (whole rest ∙ h.goes (made.last ++ rest) ∙ last_by site leaves nodes (way_of tested) n d made.last made.ends outward (state_at states h.kid.node) t rest (other h.place h.kid h.there));
      }
      | inr m ↦ left d ne whole m
    ]
  where
    left : (d : ℕ) → n ≢ d
        → ((rest : List PfRule) → rules_walk site outward (block ++ rest) (under n false t) ≡ rules_walk site outward (made.tests ++ (made.last ++ rest)) (under n false t))
        → MissesKids site tested states n made.default outward t kids made.tests → IsMoved site leaves nodes states n outward t block
    left d ne whole m = elim ways.some [
      | inl r ↦ to r.1 (m.others r.0 r.1 r.2 r.3) (ways.hit r.0 r.1 r.2 r.3)
      | inr all ↦ to made.is_kid.1 made.is_kid.3 (all made.is_kid.0 made.is_kid.1 made.is_kid.2)
    ]
      where
        to : (kid : Kid) → state_at states kid.node ≡ made.default → LeadsTo leaves nodes n t.packet kid.node → IsMoved site leaves nodes states n outward t block
        to kid same led = record {
          kid = kid.node;
          led = led;
          goes = λ rest.
              let away : n ≢ made.default = λ e. other made.is_kid.0 made.is_kid.1 made.is_kid.2 (e ∙ sym made.is_kid.3) in
              elim (last_moved site leaves nodes (way_of tested) n made.default outward t made.last away is.met made.ends rest) [
                | inl e ↦ inl (whole rest ∙ m.stays (made.last ++ rest) ∙ e ∙ ap (λ s. rules_walk site outward rest (under s false t)) (sym same))
                | inr e ↦ inr (subst (λ s. IsLeafNode leaves nodes s Drop) (sym same) e.0, whole rest ∙ m.stays (made.last ++ rest) ∙ e.1)
              ];
        }

untested_moved : (site : Site) (leaves : List Outcome) (nodes : List Node) (states : List ℕ) (n : ℕ) (outward : Bool) (t : Transit) (kids : List Kid) (block : List PfRule) → AreOthers states n kids
    → ((i : ℕ) (kid : Kid) → slice_get kids i ≡ Some kid → LeadsTo leaves nodes n t.packet kid.node) → AreUntestedRules leaves nodes states n kids block → IsMoved site leaves nodes states n outward t block
untested_moved site leaves nodes states n outward t kids block other all made =
    let k = made.is_kid in
    let ne : n ≢ made.default = λ e. other k.0 k.1 k.2 (e ∙ sym k.3) in
    record {
      kid = k.1.node;
      led = all k.0 k.1 k.2;
      goes = λ rest. elim (last_moved site leaves nodes Both n made.default outward t block ne refl made.ends rest) [
        | inl e ↦ inl (e ∙ ap (λ s. rules_walk site outward rest (under s false t)) (sym k.3))
        | inr e ↦ inr (subst (λ s. IsLeafNode leaves nodes s Drop) (sym k.3) e.0, e.1)
      ];
    }

-- the rules of a cut by what is tested
abbrev pub AreCutRules : List Outcome → List Node → List ℕ → ℕ → List Kid → List PfRule → Option Tested → Type 0
AreCutRules leaves nodes states n kids block None = AreUntestedRules leaves nodes states n kids block
AreCutRules leaves nodes states n kids block (Some tested) = AreTestedRules leaves nodes states tested n kids block

cut_by : (site : Site) (leaves : List Outcome) (nodes : List Node) (states : List ℕ) (n : ℕ) (kids : List Kid) (block : List PfRule) (o : Option Tested) → AreCutRules leaves nodes states n kids block o → LetsBy site n block
cut_by site leaves nodes states n kids block None made = last_by site leaves nodes Both n made.default block made.ends
cut_by site leaves nodes states n kids block (Some tested) made =
    subst (λ l. LetsBy site n l) (sym made.all)
    (both_by site n made.tests made.last (kids_by site tested states n made.default kids made.tests made.sorted) (last_by site leaves nodes (way_of tested) n made.default made.last made.ends))

cut_sound : (site : Site) (leaves : List Outcome) (nodes : List Node) (states : List ℕ) (n f : ℕ) (kids : List Kid) (block : List PfRule) (o : Option Tested) → tested_at site f ≡ o
    → AreCutRules leaves nodes states n kids block o → AreSound site block
cut_sound site leaves nodes states n f kids block None e made = last_sound site leaves nodes Both n made.default block made.ends
cut_sound site leaves nodes states n f kids block (Some tested) e made =
    subst (λ l. AreSound site l) (sym made.all)
    (both_sound site made.tests made.last (kids_sound site tested states n made.default kids made.tests (of_site site f tested e) made.sorted)
    (last_sound site leaves nodes (way_of tested) n made.default made.last made.ends))

cut_moved : (site : Site) (leaves : List Outcome) (nodes : List Node) (states : List ℕ) (n : ℕ) (outward : Bool) (t : Transit) (kids : List Kid) (block : List PfRule) (o : Option Tested) → AreOthers states n kids
    → CutWays leaves nodes n t.packet kids o → AreMet o site n outward t → AreCutRules leaves nodes states n kids block o → IsMoved site leaves nodes states n outward t block
cut_moved site leaves nodes states n outward t kids block None other ways is made = untested_moved site leaves nodes states n outward t kids block other ways made
cut_moved site leaves nodes states n outward t kids block (Some tested) other ways is made = tested_moved site leaves nodes states tested n outward t kids block other ways is made

pub cut_block : (site : Site) (tops : List ℕ) (tree : Plain Outcome) (leaves : List Outcome) (nodes : List Node) (states : List ℕ) → Known site tops tree leaves nodes states
    → (n f : ℕ) (kids : List Kid) (block : List PfRule) → n < length nodes → slice_get nodes n ≡ Some (Cut f kids) → AreCutRules leaves nodes states n kids block (tested_at site f)
    → IsCutBlock site tops leaves nodes states n block
cut_block site tops tree leaves nodes states known n f kids block inside there made = record {
  cut = λ w leaf. not_both leaves nodes n f kids w leaf there;
  sound = cut_sound site leaves nodes states n f kids block (tested_at site f) refl made;
  lets_by = cut_by site leaves nodes states n kids block (tested_at site f) made;
  moves = λ outward t fine.
      cut_moved site leaves nodes states n outward t kids block (tested_at site f) (others_before site tops tree leaves nodes states known n f kids inside there)
      (cut_ways known.laws site tops tree leaves nodes n f kids outward t.packet known.tops_are known.shared inside there fine)
      (met_at site tops tree leaves nodes states known n f kids there outward t fine) made;
}
