-- The code of all chains of stages, and the parts of the stages.
use Rattle.std.proofs.Common.{◌≡◌, ℕ, zero, suc, ◌+◌, ◌<◌, ◌≤◌, Bool, true, false, ◌&&◌, ◌||◌, List, [], ◌∷◌, ◌++◌, length, length-append, append-nil, arith, refl, sym, ap, ◌∙◌, subst, ⊎_elim, eq-or-lt_of_le, Option, Some, None, nat_eq, eq-eqb, ltb-true}
use Rattle.std.proofs.Math.Path.{fun_ext}
use Rattle.std.specs.Prelude.{option_and_then}
use Rattle.std.specs.List.{list_any, list_all}
use Rattle.std.proofs.lemmas.Bool.{and_parts, and_from, or_left, or_right}
use Rattle.fws_net.specs.declared.packet.Packet.{Packet}
use Rattle.fws_net.specs.declared.connection.Kind.{Kind}
use Rattle.fws_net.specs.declared.site.Site.{Site}
use Rattle.fws_net.specs.declared.transit.Transit.{Transit}
use Rattle.fws_net.specs.Transits.{with_verdict, way_by, outcome_of}
use Rattle.fws_ifcl.specs.declared.diagram.Stage.{Stage}
use Rattle.fws_ifcl.specs.declared.diagram.Ifcl.{Ifcl}
use Rattle.fws_ifcl.specs.Refusals.{is_staged}
use Rattle.fws_ifcl.specs.Soundness.{stage_ok, chain_ok, ifcl_ok}
use Rattle.fws_ifcl.specs.Walk.{stages_walk, stage_walk, means}
use Rattle.fws_flat.specs.declared.code.Ins.{Ins}
use Rattle.fws_flat.specs.declared.code.Part.{Part}
use Rattle.fws_flat.specs.declared.code.Flat.{Flat}
use Rattle.fws_flat.specs.Soundness.{part_ok, flat_ok}
use Rattle.fws_flat.specs.Walk.{parts_walk, means as flat_means}
use Rattle.fws_unfold.specs.declared.placing.Span.{Span}
use Rattle.fws_unfold.specs.Blocks.{part_of, parts_of, span_at, IsLonger, IsBlock, AreBlocks}
use Rattle.fws_unfold.proofs.Placed.{block_stays}
use Rattle.fws_unfold.proofs.Refused.{staged_in}

pub longer_same : (code : List Ins) → IsLonger code code
longer_same code = record { more = []; is = sym (append-nil code) }

pub span_last : (spans : List Span) (span : Span) → span_at (spans ++ span ∷ []) (length spans) ≡ span
span_last [] span = refl
span_last (x ∷ spans) span = span_last spans span

pub span_before : (spans : List Span) (span : Span) (c : ℕ) → c < length spans → span_at (spans ++ span ∷ []) c ≡ span_at spans c
span_before [] span c lt = absurd (omega arith)
span_before (x ∷ spans) span zero lt = refl
span_before (x ∷ spans) span (suc c) lt = span_before spans span c (omega arith)

-- a chain more
pub blocks_more : (f : Ifcl) (code longer : List Ins) (spans more : List Span) (span : Span) (n : ℕ) → AreBlocks f code spans → IsLonger code longer
    → length spans ≡ n → (is_staged f n ≡ true → IsBlock f.chains longer n span) → more ≡ spans ++ span ∷ [] → AreBlocks f longer more
blocks_more f code longer spans more span n blocks l counted block made =
    subst (λ (m : List Span). AreBlocks f longer m) (sym made) (λ c lt staged.
    let size : length (spans ++ span ∷ []) ≡ length spans + 1 = length-append spans (span ∷ []) in
    let le : c ≤ length spans = omega arith in
    ⊎_elim
    (λ last.
    let there : c ≡ n = omega arith in
    subst (λ (s : Span). IsBlock f.chains longer c s) (sym (ap (span_at (spans ++ span ∷ [])) last ∙ span_last spans span))
    (subst (λ m. IsBlock f.chains longer m span) (sym there) (block (ap (is_staged f) (sym there) ∙ staged))))
    (λ before.
    subst (λ (s : Span). IsBlock f.chains longer c s) (sym (span_before spans span c before))
    (block_stays f.chains c code longer (span_at spans c) l (blocks c before staged)))
    (eq-or-lt_of_le le))

-- Stages

-- the stages name chains whose code is known
pub record AreKnown (f : Ifcl) (code : List Ins) (spans : List Span) (stages : List Stage) : Type 0 where
  pub blocks : AreBlocks f code spans
  pub staged : (c : ℕ) → list_any (λ (s : Stage). nat_eq c s.chain) stages ≡ true → is_staged f c ≡ true
  pub within : list_all (stage_ok (length spans)) stages ≡ true

module _ (f : Ifcl) (code : List Ins) (spans : List Span) where
  pub first_known : (stage : Stage) (stages : List Stage) → AreKnown f code spans (stage ∷ stages) → IsBlock f.chains code stage.chain (span_at spans stage.chain)
  first_known stage stages known =
      known.blocks stage.chain (ltb-true stage.chain (length spans) (and_parts (stage_ok (length spans) stage) (list_all (stage_ok (length spans)) stages) known.within).0)
      (known.staged stage.chain (or_left (nat_eq stage.chain stage.chain) (list_any (λ (s : Stage). nat_eq stage.chain s.chain) stages) (eq-eqb stage.chain stage.chain refl)))

  pub first_of : (stage : Stage) (stages : List Stage) → AreKnown f code spans (stage ∷ stages) → (stage.chain < length spans) × (is_staged f stage.chain ≡ true)
  first_of stage stages known = (
    ltb-true stage.chain (length spans) (and_parts (stage_ok (length spans) stage) (list_all (stage_ok (length spans)) stages) known.within).0,
    known.staged stage.chain (or_left (nat_eq stage.chain stage.chain) (list_any (λ (s : Stage). nat_eq stage.chain s.chain) stages) (eq-eqb stage.chain stage.chain refl)),
  )

  pub rest_known : (stage : Stage) (stages : List Stage) → AreKnown f code spans (stage ∷ stages) → AreKnown f code spans stages
  rest_known stage stages known = record {
    blocks = known.blocks;
    staged = λ c on. known.staged c (or_right (nat_eq c stage.chain) (list_any (λ (s : Stage). nat_eq c s.chain) stages) on);
    within = (and_parts (stage_ok (length spans) stage) (list_all (stage_ok (length spans)) stages) known.within).1;
  }

  parts_right : (stages : List Stage) → AreKnown f code spans stages → list_all (part_ok code) (parts_of spans stages) ≡ true
  parts_right [] known = refl
  parts_right (stage ∷ stages) known =
      and_from (part_ok code (part_of (span_at spans stage.chain) stage)) (list_all (part_ok code) (parts_of spans stages))
      ((first_known stage stages known).right stage) (parts_right stages (rest_known stage stages known))

  and_then_same : (g h : Transit → Option Transit) (o : Option Transit) → ((t : Transit) → g t ≡ h t) → option_and_then g o ≡ option_and_then h o
  and_then_same g h None same = refl
  and_then_same g h (Some t) same = same t

  pub parts_same : (site : Site) (p : Packet) (k : Kind) (stages : List Stage) → AreKnown f code spans stages → (t : Transit)
      → parts_walk code site p k (parts_of spans stages) t ≡ stages_walk f.chains site p k stages t
  parts_same site p k [] known t = refl
  parts_same site p k (stage ∷ stages) known t =
      ap (option_and_then (parts_walk code site p k (parts_of spans stages))) ((first_known stage stages known).walks site p k stage (with_verdict stage.end t))
      ∙ and_then_same (parts_walk code site p k (parts_of spans stages)) (stages_walk f.chains site p k stages) (stage_walk f.chains site p k stage t)
      (parts_same site p k stages (rest_known stage stages known))

-- the stages of a diagram that is right

record Parts (f : Ifcl) : Type 0 where
  chains : list_all (chain_ok (length f.chains)) f.chains ≡ true
  arriving : list_all (stage_ok (length f.chains)) f.arrive ≡ true
  delivered : list_all (stage_ok (length f.chains)) f.deliver ≡ true
  forwarded : list_all (stage_ok (length f.chains)) f.forward ≡ true
  sent : list_all (stage_ok (length f.chains)) f.send ≡ true

parts_by : (a b c d e : Bool) → (a && b && c && d && e) ≡ true → (a ≡ true) × (b ≡ true) × (c ≡ true) × (d ≡ true) × (e ≡ true)
parts_by true true true true true h = (refl, refl, refl, refl, refl)
parts_by true true true true false h = absurd (cc)
parts_by true true true false e h = absurd (cc)
parts_by true true false d e h = absurd (cc)
parts_by true false c d e h = absurd (cc)
parts_by false b c d e h = absurd (cc)

parts_right_in : (f : Ifcl) → ifcl_ok f ≡ true → Parts f
parts_right_in f ok =
    let n = length f.chains in
    let all = parts_by (list_all (chain_ok n) f.chains) (list_all (stage_ok n) f.arrive) (list_all (stage_ok n) f.deliver) (list_all (stage_ok n) f.forward) (list_all (stage_ok n) f.send) ok in
    record { chains = all.0; arriving = all.1; delivered = all.2; forwarded = all.3; sent = all.4 }

pub chains_right : (f : Ifcl) → ifcl_ok f ≡ true → list_all (chain_ok (length f.chains)) f.chains ≡ true
chains_right f ok = (parts_right_in f ok).chains

abbrev has : List Stage → ℕ → Bool
has stages c = list_any (λ (s : Stage). nat_eq c s.chain) stages

module _ (f : Ifcl) (code : List Ins) (spans : List Span) (ok : ifcl_ok f ≡ true) (blocks : AreBlocks f code spans) (all : length spans ≡ length f.chains) where
  known_in : (stages : List Stage) → list_all (stage_ok (length f.chains)) stages ≡ true
      → ((c : ℕ) → list_any (λ (s : Stage). nat_eq c s.chain) stages ≡ true → is_staged f c ≡ true) → AreKnown f code spans stages
  known_in stages within staged = record {
    blocks = blocks;
    staged = staged;
    within = ap (λ n. list_all (stage_ok n) stages) all ∙ within;
  }

  pub arrive_known : AreKnown f code spans f.arrive
  arrive_known = known_in f.arrive (parts_right_in f ok).arriving
      (λ c on. staged_in f c ∙ four_first (has f.arrive c) (has f.deliver c) (has f.forward c) (has f.send c) on)
    where
      four_first : (a b d e : Bool) → a ≡ true → (a || b || d || e) ≡ true
      four_first true b d e h = refl
      four_first false b d e h = absurd (cc)

  pub deliver_known : AreKnown f code spans f.deliver
  deliver_known = known_in f.deliver (parts_right_in f ok).delivered
      (λ c on. staged_in f c ∙ four_second (has f.arrive c) (has f.deliver c) (has f.forward c) (has f.send c) on)
    where
      four_second : (a b d e : Bool) → b ≡ true → (a || b || d || e) ≡ true
      four_second true b d e h = refl
      four_second false true d e h = refl
      four_second false false d e h = absurd (cc)

  pub forward_known : AreKnown f code spans f.forward
  forward_known = known_in f.forward (parts_right_in f ok).forwarded
      (λ c on. staged_in f c ∙ four_third (has f.arrive c) (has f.deliver c) (has f.forward c) (has f.send c) on)
    where
      four_third : (a b d e : Bool) → d ≡ true → (a || b || d || e) ≡ true
      four_third true b d e h = refl
      four_third false true d e h = refl
      four_third false false true e h = refl
      four_third false false false e h = absurd (cc)

  pub send_known : AreKnown f code spans f.send
  send_known = known_in f.send (parts_right_in f ok).sent
      (λ c on. staged_in f c ∙ four_last (has f.arrive c) (has f.deliver c) (has f.forward c) (has f.send c) on)
    where
      four_last : (a b d e : Bool) → e ≡ true → (a || b || d || e) ≡ true
      four_last true b d e h = refl
      four_last false true d e h = refl
      four_last false false true e h = refl
      four_last false false false e h = h

  pub flat_right : flat_ok (record { code = code; arrive = parts_of spans f.arrive; deliver = parts_of spans f.deliver; forward = parts_of spans f.forward; send = parts_of spans f.send }) ≡ true
  flat_right =
      let test : List Part → Bool = list_all (part_ok code) in
      and_from (test (parts_of spans f.arrive) && test (parts_of spans f.deliver) && test (parts_of spans f.forward)) (test (parts_of spans f.send))
      (and_from (test (parts_of spans f.arrive) && test (parts_of spans f.deliver)) (test (parts_of spans f.forward))
      (and_from (test (parts_of spans f.arrive)) (test (parts_of spans f.deliver)) (parts_right f code spans f.arrive arrive_known) (parts_right f code spans f.deliver deliver_known))
      (parts_right f code spans f.forward forward_known))
      (parts_right f code spans f.send send_known)

  pub flat_same : (site : Site) (p : Packet) (k : Kind)
      → flat_means (record { code = code; arrive = parts_of spans f.arrive; deliver = parts_of spans f.deliver; forward = parts_of spans f.forward; send = parts_of spans f.send }) site p k ≡ means f site p k
  flat_same site p k =
      let walk = λ (stages : List Stage). parts_walk code site p k (parts_of spans stages) in
      let arriving : walk f.arrive ≡ stages_walk f.chains site p k f.arrive = fun_ext (parts_same f code spans site p k f.arrive arrive_known) in
      let delivering : walk f.deliver ≡ stages_walk f.chains site p k f.deliver = fun_ext (parts_same f code spans site p k f.deliver deliver_known) in
      let forwarding : walk f.forward ≡ stages_walk f.chains site p k f.forward = fun_ext (parts_same f code spans site p k f.forward forward_known) in
      let sending : walk f.send ≡ stages_walk f.chains site p k f.send = fun_ext (parts_same f code spans site p k f.send send_known) in
      ap (λ a. outcome_of k (way_by a (walk f.deliver) (walk f.forward) (walk f.send) site p)) arriving
      ∙ ap (λ d. outcome_of k (way_by (stages_walk f.chains site p k f.arrive) d (walk f.forward) (walk f.send) site p)) delivering
      ∙ ap (λ w. outcome_of k (way_by (stages_walk f.chains site p k f.arrive) (stages_walk f.chains site p k f.deliver) w (walk f.send) site p)) forwarding
      ∙ ap (λ s. outcome_of k (way_by (stages_walk f.chains site p k f.arrive) (stages_walk f.chains site p k f.deliver) (stages_walk f.chains site p k f.forward) s site p)) sending

abbrev flat_with : List Ins → List Part → List Part → List Part → List Part → Flat
flat_with c a d w s = record { code = c; arrive = a; deliver = d; forward = w; send = s }

pub same_flat : (c c' : List Ins) (a a' d d' w w' s s' : List Part) → c ≡ c' → a ≡ a' → d ≡ d' → w ≡ w' → s ≡ s'
    → ◌≡◌ {A = Flat} (record { code = c; arrive = a; deliver = d; forward = w; send = s }) (record { code = c'; arrive = a'; deliver = d'; forward = w'; send = s' })
same_flat c c' a a' d d' w w' s s' ec ea ed ew es =
    ap (λ (x : List Ins). flat_with x a d w s) ec ∙ ap (λ (x : List Part). flat_with c' x d w s) ea ∙ ap (λ (x : List Part). flat_with c' a' x w s) ed
    ∙ ap (λ (x : List Part). flat_with c' a' d' x s) ew ∙ ap (λ (x : List Part). flat_with c' a' d' w' x) es
