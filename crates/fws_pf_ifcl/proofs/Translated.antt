-- The rules of translations walk as these do.
use Rattle.std.proofs.Common.{◌≡◌, ℕ, ◌+◌, ◌<◌, ◌≤◌, Bool, true, false, cond, Option, Some, None, List, [], ◌∷◌, ◌++◌, length, arith, refl, ap, ◌∙◌, subst}
use Rattle.std.specs.Option.{option_map_or}
use Rattle.fws_net.specs.declared.condition.Lit.{Lit}
use Rattle.fws_net.specs.declared.connection.Kind.TheVariants.{New}
use Rattle.fws_net.specs.declared.outcome.End.{End}
use Rattle.fws_net.specs.declared.transit.Transit.{Transit}
use Rattle.fws_net.specs.Conditions.{holds}
use Rattle.fws_net.specs.Transits.{with_only_tag}
use Rattle.fws_ifcl.specs.declared.diagram.Act.{Act}
use Rattle.fws_ifcl.specs.declared.diagram.Act.TheVariants.{Accept, Skip, OnlyTag}
use Rattle.fws_ifcl.specs.declared.diagram.Rule.{Rule}
use Rattle.fws_ifcl.specs.declared.step.ChainEnd.{ChainEnd}
use Rattle.fws_ifcl.specs.declared.step.ChainEnd.TheVariants.{Accepted}
use Rattle.fws_ifcl_rules.specs.Places.{sight, run, Stands}
use Rattle.fws_ifcl_rules.specs.Rules.{ruled, always, guard}
use Rattle.fws_pf.specs.declared.config.PfConfig.{PfConfig}
use Rattle.fws_pf.specs.declared.config.PfNat.{PfNat}
use Rattle.fws_pf.specs.Walk.{tagged, written, translated_by, chosen, rules_walk, behind}
use Rattle.fws_pf_ifcl.specs.Blocks.{tagging, writing, translating, translation, width_with, translation_width, translation_widths, translations_from}
use Rattle.fws_pf_ifcl.proofs.Courses.{Course}
use Rattle.fws_pf_ifcl.proofs.Lengths.{translation_length}
use Rattle.fws_pf_ifcl.proofs.Settling.{settled, left, left_by}

-- What one does

-- what leaves a translation
abbrev pub leaver : Bool → ℕ → Act
leaver past filter = cond past Accept (Skip filter)

-- how a pass goes on behind one
abbrev leaves : {outward : Bool} → Course New outward → ℕ → Bool → Transit → ChainEnd
leaves w filter past t = cond past (Accepted t) (run w filter t)

leave_walk : (outward : Bool) (w : Course New outward) (filter at : ℕ) (past : Bool) (test : List Lit) → Stands w at (ruled test (leaver past filter) ∷ []) → at < filter → (t : Transit)
    → run w at t ≡ cond (holds test (sight w t)) (leaves w filter past t) (run w (at + 1) t)
leave_walk outward w filter at true test s lt t = w.law.walked s (tt, tt) t
leave_walk outward w filter at false test s lt t = w.law.walked s (omega (arith, lt), tt) t

-- an end
write_walk : (outward : Bool) (w : Course New outward) (at : ℕ) (e : End) → Stands w at (always (writing outward e) ∷ []) → (t : Transit)
    → run w at t ≡ run w (at + 1) (written w.p outward e t)
write_walk true w at e s t = w.law.walked s (tt, tt) t
write_walk false w at e s t = w.law.walked s (tt, tt) t

-- a tag, and what leaves
tag_walk : (outward : Bool) (w : Course New outward) (filter at : ℕ) (past : Bool) (tag : Option ℕ) → Stands w at (tagging tag ++ always (leaver past filter) ∷ [])
    → at + length (tagging tag) < filter → (t : Transit) → run w at t ≡ leaves w filter past (tagged tag t)
tag_walk outward w filter at past None s lt t = leave_walk outward w filter at past [] s (omega (arith, lt)) t
tag_walk outward w filter at past (Some n) s lt t =
    let both = w.law.parts (at + 1) (always (OnlyTag n) ∷ []) (always (leaver past filter) ∷ []) s refl in
    w.law.walked both.0 (tt, tt) t ∙ leave_walk outward w filter (at + 1) past [] both.1 lt (with_only_tag n t)

-- the rules that change a packet
abbrev pub changing_by : Bool → Option End → Option ℕ → List Rule
changing_by outward to tag = option_map_or (λ e. always (writing outward e) ∷ []) to [] ++ tagging tag

-- the packet behind them
abbrev pub changed_by : {outward : Bool} → Course New outward → Option End → Option ℕ → Transit → Transit
changed_by {outward} w to tag t = tagged tag (option_map_or (λ e. written w.p outward e t) to t)

-- an end and a tag, and what leaves
change_walk : (outward : Bool) (w : Course New outward) (filter at : ℕ) (past : Bool) (to : Option End) (tag : Option ℕ)
    → Stands w at (changing_by outward to tag ++ always (leaver past filter) ∷ [])
    → at + length (changing_by outward to tag) < filter → (t : Transit) → run w at t ≡ leaves w filter past (changed_by w to tag t)
change_walk outward w filter at past None tag s lt t = tag_walk outward w filter at past tag s lt t
change_walk outward w filter at past (Some e) tag s lt t =
    let both = w.law.parts (at + 1) (always (writing outward e) ∷ []) (tagging tag ++ always (leaver past filter) ∷ []) s refl in
    write_walk outward w at e both.0 t ∙ tag_walk outward w filter (at + 1) past tag both.1 (omega (arith, lt)) (written w.p outward e t)

-- a translation with changes
with_changes : (outward : Bool) (w : Course New outward) (filter at : ℕ) (past : Bool) (to : Option End) (tag : Option ℕ) (test : List Lit) (inner : List Rule)
    → inner ≡ changing_by outward to tag ++ always (leaver past filter) ∷ [] → Stands w at (guard at test (length inner) ++ inner)
    → (at + 2) + length (changing_by outward to tag) < filter → (t : Transit)
    → run w at t ≡ cond (holds test (sight w t)) (leaves w filter past (changed_by w to tag t)) (run w (at + (2 + length inner)) t)
with_changes outward w filter at past to tag test inner is s lt t =
    let parts = w.law.parts (at + 2) (guard at test (length inner)) inner s refl in
    w.law.walked parts.0 (omega arith, (omega arith, tt)) t
    ∙ ap (λ end. cond (holds test (sight w t)) end (run w (at + (2 + length inner)) t))
    (change_walk outward w filter (at + 2) past to tag (subst (Stands w (at + 2)) is parts.1) lt t)

-- a translation, by what it changes
translating_walk : (outward : Bool) (w : Course New outward) (filter at : ℕ) (past : Bool) (to : Option End) (tag : Option ℕ) (test : List Lit)
    → Stands w at (translating at test (leaver past filter) (changing_by outward to tag)) → at + width_with (changing_by outward to tag) ≤ filter → (t : Transit)
    → run w at t ≡ cond (holds test (sight w t)) (leaves w filter past (changed_by w to tag t)) (run w (at + width_with (changing_by outward to tag)) t)
translating_walk outward w filter at past None None test s le t = leave_walk outward w filter at past test s (omega (arith, le)) t
translating_walk outward w filter at past None (Some n) test s le t =
    with_changes outward w filter at past None (Some n) test (always (OnlyTag n) ∷ always (leaver past filter) ∷ []) refl s (omega (arith, le)) t
translating_walk outward w filter at past (Some e) None test s le t =
    with_changes outward w filter at past (Some e) None test (always (writing outward e) ∷ always (leaver past filter) ∷ []) refl s (omega (arith, le)) t
translating_walk outward w filter at past (Some e) (Some n) test s le t =
    with_changes outward w filter at past (Some e) (Some n) test (always (writing outward e) ∷ always (OnlyTag n) ∷ always (leaver past filter) ∷ []) refl s
    (omega (arith, le)) t

-- All of them

module _ (outward : Bool) (w : Course New outward) (c : PfConfig) (filter : ℕ) (on : (u : Transit) → left (run w filter u) ≡ settled (rules_walk w.site outward c.filter u)) where
  -- how a pass goes on behind a translation
  left_behind : (past : Bool) (u : Transit) → left (leaves w filter past u) ≡ settled (cond past (Some u) (rules_walk w.site outward c.filter u))
  left_behind true u = refl
  left_behind false u = on u

  -- the first one or a later one
  first_or_later : (b : Bool) (nat : PfNat) (later : Option PfNat) (t : Transit)
      → cond b (settled (behind c w.site w.p outward (Some nat) t)) (settled (behind c w.site w.p outward later t))
      ≡ settled (behind c w.site w.p outward (cond b (Some nat) later) t)
  first_or_later true nat later t = refl
  first_or_later false nat later t = refl

  -- translations, behind which the filter rules stand
  pub translations_walk : (at : ℕ) (nats : List PfNat) → Stands w at (translations_from outward filter at nats) → at + translation_widths outward nats ≡ filter → (t : Transit)
      → left (run w at t) ≡ settled (behind c w.site w.p outward (chosen w.site outward nats t) t)
  translations_walk at [] s wide t =
      let same : at ≡ filter = omega (arith, wide) in
      ap (λ place. left (run w place t)) same ∙ on t
  translations_walk at (nat ∷ nats) s wide t =
      let next = at + translation_width outward nat in
      let here = translation outward filter at nat in
      let more = translations_from outward filter next nats in
      let many : length here ≡ translation_width outward nat = translation_length outward filter at nat in
      let parts = w.law.parts next here more s (omega (arith, many)) in
      let b = holds nat.cond (sight w t) in
      let after = translated_by w.p outward nat t in
      ap left (translating_walk outward w filter at nat.past nat.to nat.tag nat.cond parts.0 (omega (arith, wide)) t)
      ∙ left_by b (leaves w filter nat.past after) (run w next t)
      ∙ ap (λ end. cond b end (left (run w next t))) (left_behind nat.past after)
      ∙ ap (cond b (settled (behind c w.site w.p outward (Some nat) t))) (translations_walk next nats parts.1 (omega (arith, wide)) t)
      ∙ first_or_later b nat (chosen w.site outward nats t) t
