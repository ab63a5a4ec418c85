-- What the parts of the stages use.
use Rattle.std.proofs.Common.{◌≡◌, ℕ, ◌+◌, ◌≤◌, Bool, true, false, cond, ◌||◌, List, [], ◌∷◌, ◌++◌, length, length-append, append-nil, arith, refl, sym, ap, ◌∙◌, subst, ⊎_elim, eq-or-lt_of_le, Option, Some, None, nat_eq}
use Rattle.std.proofs.Math.Path.{fun_ext}
use Rattle.std.specs.List.{list_any}
use Rattle.std.specs.Option.{option_map_or}
use Rattle.std.proofs.lemmas.List.Folds.{list_any-append}
use Rattle.fws_net.specs.declared.packet.Packet.{Packet}
use Rattle.fws_net.specs.declared.connection.Kind.{Kind}
use Rattle.fws_net.specs.declared.site.Site.{Site}
use Rattle.fws_net.specs.declared.transit.Transit.{Transit}
use Rattle.fws_net.specs.declared.exit.Exit.{Exit}
use Rattle.fws_net.specs.declared.exit.Exit.TheVariants.{Deliver, Out, Lost}
use Rattle.fws_net.specs.Routes.{exit_at}
use Rattle.fws_net.specs.Transits.{entered, with_verdict, used_onwards, used_by}
use Rattle.fws_ifcl.specs.declared.diagram.Stage.{Stage}
use Rattle.fws_ifcl.specs.declared.diagram.Ifcl.{Ifcl}
use Rattle.fws_ifcl.specs.declared.diagram.Place.{Place}
use Rattle.fws_ifcl.specs.Refusals.{is_staged}
use Rattle.fws_ifcl.specs.Soundness.{ifcl_ok}
use Rattle.fws_ifcl.specs.Walk.{stages_walk, stage_walk}
use Rattle.fws_ifcl.specs.Uses.{stage_used, stages_used, used_places, is_place}
use Rattle.fws_flat.specs.declared.code.Ins.{Ins}
use Rattle.fws_flat.specs.Walk.{parts_walk, part_walk}
use Rattle.fws_flat.specs.Uses.{part_used, parts_used, used_places as flat_used}
use Rattle.fws_unfold.specs.declared.placing.Span.{Span}
use Rattle.fws_unfold.specs.Blocks.{part_of, parts_of, span_at, IsLonger, AreBlocks}
use Rattle.fws_unfold.specs.Told.{told_at, told, AreMore, IsToldBlock, AreToldBlocks}
use Rattle.fws_unfold.proofs.Told.{told-append, told_block_stays}
use Rattle.fws_unfold.proofs.Flattened.{AreKnown, first_known, rest_known, first_of, parts_same, arrive_known, deliver_known, forward_known, send_known, span_last, span_before}

pub more_same : (rules : List (Option Place)) → AreMore rules rules
more_same rules = record { more = []; is = sym (append-nil rules) }

pub told_blocks_more : (f : Ifcl) (code longer : List Ins) (rules longer_rules : List (Option Place)) (spans more : List Span) (span : Span) (n : ℕ) → AreBlocks f code spans → AreToldBlocks f code rules spans
    → IsLonger code longer → AreMore rules longer_rules
    → length spans ≡ n → (is_staged f n ≡ true → IsToldBlock f.chains longer longer_rules n span) → more ≡ spans ++ span ∷ [] → AreToldBlocks f longer longer_rules more
told_blocks_more f code longer rules longer_rules spans more span n blocks tells l m counted block made =
    subst (λ (ss : List Span). AreToldBlocks f longer longer_rules ss) (sym made) (λ c lt staged.
    let size : length (spans ++ span ∷ []) ≡ length spans + 1 = length-append spans (span ∷ []) in
    let le : c ≤ length spans = omega arith in
    ⊎_elim
    (λ last.
    let there : c ≡ n = omega arith in
    subst (λ (s : Span). IsToldBlock f.chains longer longer_rules c s) (sym (ap (span_at (spans ++ span ∷ [])) last ∙ span_last spans span))
    (subst (λ m. IsToldBlock f.chains longer longer_rules m span) (sym there) (block (ap (is_staged f) (sym there) ∙ staged))))
    (λ before.
    subst (λ (s : Span). IsToldBlock f.chains longer longer_rules c s) (sym (span_before spans span c before))
    (told_block_stays f.chains c code longer rules longer_rules (span_at spans c) l m (blocks c before staged) (tells c before staged)))
    (eq-or-lt_of_le le))

behind_told : (rules : List (Option Place)) (g : Transit → List ℕ) (h : Transit → List Place) (o : Option Transit) → ((t : Transit) → told rules (g t) ≡ h t)
    → told rules (option_map_or g o []) ≡ option_map_or h o []
behind_told rules g h None same = refl
behind_told rules g h (Some t) same = same t

module _ (f : Ifcl) (code : List Ins) (rules : List (Option Place)) (spans : List Span) (tells : AreToldBlocks f code rules spans) where
  parts_told : (site : Site) (p : Packet) (k : Kind) (stages : List Stage) → AreKnown f code spans stages → (t : Transit)
      → told rules (parts_used code site p k (parts_of spans stages) t) ≡ stages_used f.chains site p k stages t
  parts_told site p k [] known t = refl
  parts_told site p k (stage ∷ stages) known t =
      let begun = with_verdict stage.end t in
      let part = part_of (span_at spans stage.chain) stage in
      let at = first_of f code spans stage stages known in
      let here : told rules (part_used code site p k part t) ≡ stage_used f.chains site p k stage t = (tells stage.chain at.0 at.1).uses site p k stage begun in
      let walked : part_walk code site p k part t ≡ stage_walk f.chains site p k stage t = (first_known f code spans stage stages known).walks site p k stage begun in
      told-append rules (part_used code site p k part t) (option_map_or (parts_used code site p k (parts_of spans stages)) (part_walk code site p k part t) [])
      ∙ ap (λ xs. xs ++ told rules (option_map_or (parts_used code site p k (parts_of spans stages)) (part_walk code site p k part t) [])) here
      ∙ ap (λ xs. stage_used f.chains site p k stage t ++ xs)
      (ap (λ o. told rules (option_map_or (parts_used code site p k (parts_of spans stages)) o [])) walked
      ∙ behind_told rules (parts_used code site p k (parts_of spans stages)) (stages_used f.chains site p k stages) (stage_walk f.chains site p k stage t)
      (parts_told site p k stages (rest_known f code spans stage stages known)))

onwards_told : (rules : List (Option Place)) (d w : Transit → List ℕ) (d' w' : Transit → List Place) (exit : Exit) (t : Transit)
    → ((t : Transit) → told rules (d t) ≡ d' t) → ((t : Transit) → told rules (w t) ≡ w' t) → told rules (used_onwards d w exit t) ≡ used_onwards d' w' exit t
onwards_told rules d w d' w' Deliver t ed ew = ed t
onwards_told rules d w d' w' (Out entry) t ed ew = ew t
onwards_told rules d w d' w' Lost t ed ew = refl

way_told : (rules : List (Option Place)) (own : Bool) (s a b : List ℕ) (s' a' b' : List Place) → told rules s ≡ s' → told rules a ≡ a' → told rules b ≡ b'
    → told rules (cond own s (a ++ b)) ≡ cond own s' (a' ++ b')
way_told rules true s a b s' a' b' es ea eb = es
way_told rules false s a b s' a' b' es ea eb = told-append rules a b ∙ ap (λ xs. xs ++ told rules b) ea ∙ ap (λ xs. a' ++ xs) eb

used_told : (rules : List (Option Place)) (arrive : Transit → Option Transit) (a d w s : Transit → List ℕ) (a' d' w' s' : Transit → List Place) (site : Site) (p : Packet)
    → ((t : Transit) → told rules (a t) ≡ a' t) → ((t : Transit) → told rules (d t) ≡ d' t) → ((t : Transit) → told rules (w t) ≡ w' t) → ((t : Transit) → told rules (s t) ≡ s' t)
    → told rules (used_by arrive a d w s site p) ≡ used_by arrive a' d' w' s' site p
used_told rules arrive a d w s a' d' w' s' site p ea ed ew es =
    way_told rules (nat_eq p.entry 0) _ _ _ _ _ _ (es (entered p)) (ea (entered p))
    (behind_told rules (λ t. used_onwards d w (exit_at site p.entry t.packet.dst) t) (λ t. used_onwards d' w' (exit_at site p.entry t.packet.dst) t) (arrive (entered p))
    (λ t. onwards_told rules d w d' w' (exit_at site p.entry t.packet.dst) t ed ew))

pub flat_told : (f : Ifcl) (code : List Ins) (rules : List (Option Place)) (spans : List Span) → ifcl_ok f ≡ true → AreBlocks f code spans → length spans ≡ length f.chains → AreToldBlocks f code rules spans
    → (site : Site) (p : Packet) (k : Kind)
    → told rules (flat_used (record { code = code; arrive = parts_of spans f.arrive; deliver = parts_of spans f.deliver; forward = parts_of spans f.forward; send = parts_of spans f.send }) site p k)
    ≡ used_places f site p k
flat_told f code rules spans ok blocks all tells site p k =
    let arriving : parts_walk code site p k (parts_of spans f.arrive) ≡ stages_walk f.chains site p k f.arrive = fun_ext (parts_same f code spans site p k f.arrive (arrive_known f code spans ok blocks all)) in
    ap (λ (a : Transit → Option Transit). told rules (used_by a (parts_used code site p k (parts_of spans f.arrive)) (parts_used code site p k (parts_of spans f.deliver)) (parts_used code site p k (parts_of spans f.forward)) (parts_used code site p k (parts_of spans f.send)) site p)) arriving
    ∙ used_told rules (stages_walk f.chains site p k f.arrive) _ _ _ _ _ _ _ _ site p
    (parts_told f code rules spans tells site p k f.arrive (arrive_known f code spans ok blocks all))
    (parts_told f code rules spans tells site p k f.deliver (deliver_known f code spans ok blocks all))
    (parts_told f code rules spans tells site p k f.forward (forward_known f code spans ok blocks all))
    (parts_told f code rules spans tells site p k f.send (send_known f code spans ok blocks all))

-- an instruction that stands for the rule is used where the rule is
pub any_told : (rules : List (Option Place)) (at : Place) (ns : List ℕ) → list_any (is_place at) (told rules ns) ≡ list_any (λ n. list_any (is_place at) (told_at rules n)) ns
any_told rules at [] = refl
any_told rules at (n ∷ ns) =
    list_any-append (is_place at) (told_at rules n) (told rules ns) ∙ ap (λ b. list_any (is_place at) (told_at rules n) || b) (any_told rules at ns)
