-- What is told of the rules of translations is which translation a packet uses.
use Rattle.std.proofs.Common.{◌≡◌, ℕ, suc, ◌+◌, ◌<◌, ◌≤◌, Bool, true, false, cond, Option, Some, None, List, [], ◌∷◌, ◌++◌, length, arith, refl, ap, ◌∙◌, subst}
use Rattle.fws_net.specs.declared.condition.Lit.{Lit}
use Rattle.fws_net.specs.declared.connection.Kind.TheVariants.{New}
use Rattle.fws_net.specs.declared.outcome.End.{End}
use Rattle.fws_net.specs.declared.transit.Transit.{Transit}
use Rattle.fws_net.specs.Conditions.{holds}
use Rattle.fws_net.specs.Transits.{with_only_tag}
use Rattle.fws_ifcl.specs.declared.diagram.Act.TheVariants.{OnlyTag}
use Rattle.fws_ifcl.specs.declared.diagram.Rule.{Rule}
use Rattle.fws_ifcl_rules.specs.Places.{sight, Stands}
use Rattle.fws_ifcl_rules.specs.Rules.{ruled, always, guard}
use Rattle.fws_ifcl_rules.specs.UsedPlaces.{untold, first_told, Telling, tell, Bears}
use Rattle.fws_pf.specs.declared.config.PfConfig.{PfConfig}
use Rattle.fws_pf.specs.declared.config.PfNat.{PfNat}
use Rattle.fws_pf.specs.Uses.{first_filter_rule, translation_used, rules_used, used_behind}
use Rattle.fws_pf.specs.Walk.{tagged, written, translated_by, chosen}
use Rattle.fws_pf_ifcl.specs.Blocks.{tagging, writing, translating, translation, width_with, translation_width, translation_widths, translations_from}
use Rattle.fws_pf_ifcl.specs.Placed.{translations_told}
use Rattle.fws_pf_ifcl.proofs.Courses.{Course}
use Rattle.fws_pf_ifcl.proofs.Lengths.{translation_length}
use Rattle.fws_pf_ifcl.proofs.Translated.{leaver, changing_by, changed_by}

-- What is told of one

-- behind one
abbrev pub leaves_told : {outward : Bool} {w : Course New outward} → Telling w → ℕ → Bool → Transit → List ℕ
leaves_told u filter past t = cond past [] (tell u filter t)

leave_told : (outward : Bool) (w : Course New outward) (u : Telling w) (filter at : ℕ) (past : Bool) (test : List Lit) (numbers : List ℕ)
    → Stands w at (ruled test (leaver past filter) ∷ []) → Bears u at (numbers ∷ []) → at < filter → (t : Transit)
    → tell u at t ≡ cond (holds test (sight w t)) (numbers ++ leaves_told u filter past t) (tell u (at + 1) t)
leave_told outward w u filter at true test numbers s b lt t = u.law.told s b (tt, tt) t
leave_told outward w u filter at false test numbers s b lt t = u.law.told s b (omega (arith, lt), tt) t

-- an end
write_told : (outward : Bool) (w : Course New outward) (u : Telling w) (at : ℕ) (e : End) → Stands w at (always (writing outward e) ∷ []) → Bears u at ([] ∷ []) → (t : Transit)
    → tell u at t ≡ tell u (at + 1) (written w.p outward e t)
write_told true w u at e s b t = u.law.told s b (tt, tt) t
write_told false w u at e s b t = u.law.told s b (tt, tt) t

-- a tag, and what leaves
tag_told : (outward : Bool) (w : Course New outward) (u : Telling w) (filter at : ℕ) (past : Bool) (tag : Option ℕ)
    → Stands w at (tagging tag ++ always (leaver past filter) ∷ []) → Bears u at (untold (tagging tag ++ always (leaver past filter) ∷ []))
    → at + length (tagging tag) < filter → (t : Transit) → tell u at t ≡ leaves_told u filter past (tagged tag t)
tag_told outward w u filter at past None s b lt t = leave_told outward w u filter at past [] [] s b (omega (arith, lt)) t
tag_told outward w u filter at past (Some n) s b lt t =
    let both = w.law.parts (at + 1) (always (OnlyTag n) ∷ []) (always (leaver past filter) ∷ []) s refl in
    let bears = u.law.parts (at + 1) ([] ∷ []) ([] ∷ []) b refl in
    u.law.told both.0 bears.0 (tt, tt) t ∙ leave_told outward w u filter (at + 1) past [] [] both.1 bears.1 lt (with_only_tag n t)

-- an end and a tag, and what leaves
change_told : (outward : Bool) (w : Course New outward) (u : Telling w) (filter at : ℕ) (past : Bool) (to : Option End) (tag : Option ℕ)
    → Stands w at (changing_by outward to tag ++ always (leaver past filter) ∷ []) → Bears u at (untold (changing_by outward to tag ++ always (leaver past filter) ∷ []))
    → at + length (changing_by outward to tag) < filter → (t : Transit) → tell u at t ≡ leaves_told u filter past (changed_by w to tag t)
change_told outward w u filter at past None tag s b lt t = tag_told outward w u filter at past tag s b lt t
change_told outward w u filter at past (Some e) tag s b lt t =
    let both = w.law.parts (at + 1) (always (writing outward e) ∷ []) (tagging tag ++ always (leaver past filter) ∷ []) s refl in
    let bears = u.law.parts (at + 1) ([] ∷ []) (untold (tagging tag ++ always (leaver past filter) ∷ [])) b refl in
    write_told outward w u at e both.0 bears.0 t ∙ tag_told outward w u filter (at + 1) past tag both.1 bears.1 (omega (arith, lt)) (written w.p outward e t)

-- a translation with changes
with_changes_told : (outward : Bool) (w : Course New outward) (u : Telling w) (filter at n : ℕ) (past : Bool) (to : Option End) (tag : Option ℕ) (test : List Lit) (inner : List Rule)
    → inner ≡ changing_by outward to tag ++ always (leaver past filter) ∷ [] → Stands w at (guard at test (length inner) ++ inner)
    → Bears u at (first_told n (guard at test (length inner) ++ inner))
    → (at + 2) + length (changing_by outward to tag) < filter → (t : Transit)
    → tell u at t ≡ cond (holds test (sight w t)) (n ∷ leaves_told u filter past (changed_by w to tag t)) (tell u (at + (2 + length inner)) t)
with_changes_told outward w u filter at n past to tag test inner is s b lt t =
    let both = w.law.parts (at + 2) (guard at test (length inner)) inner s refl in
    let bears = u.law.parts (at + 2) ((n ∷ []) ∷ [] ∷ []) (untold inner) b refl in
    u.law.told both.0 bears.0 (omega arith, (omega arith, tt)) t
    ∙ ap (λ l. cond (holds test (sight w t)) (n ∷ l) (tell u (at + (2 + length inner)) t))
    (change_told outward w u filter (at + 2) past to tag (subst (Stands w (at + 2)) is both.1) (subst (λ l. Bears u (at + 2) (untold l)) is bears.1) lt t)

-- a translation, by what it changes
translating_told : (outward : Bool) (w : Course New outward) (u : Telling w) (filter at n : ℕ) (past : Bool) (to : Option End) (tag : Option ℕ) (test : List Lit)
    → Stands w at (translating at test (leaver past filter) (changing_by outward to tag))
    → Bears u at (first_told n (translating at test (leaver past filter) (changing_by outward to tag)))
    → at + width_with (changing_by outward to tag) ≤ filter → (t : Transit)
    → tell u at t ≡ cond (holds test (sight w t)) (n ∷ leaves_told u filter past (changed_by w to tag t)) (tell u (at + width_with (changing_by outward to tag)) t)
translating_told outward w u filter at n past None None test s b le t = leave_told outward w u filter at past test (n ∷ []) s b (omega (arith, le)) t
translating_told outward w u filter at n past None (Some m) test s b le t =
    with_changes_told outward w u filter at n past None (Some m) test (always (OnlyTag m) ∷ always (leaver past filter) ∷ []) refl s b (omega (arith, le)) t
translating_told outward w u filter at n past (Some e) None test s b le t =
    with_changes_told outward w u filter at n past (Some e) None test (always (writing outward e) ∷ always (leaver past filter) ∷ []) refl s b (omega (arith, le)) t
translating_told outward w u filter at n past (Some e) (Some m) test s b le t =
    with_changes_told outward w u filter at n past (Some e) (Some m) test (always (writing outward e) ∷ always (OnlyTag m) ∷ always (leaver past filter) ∷ []) refl s b
    (omega (arith, le)) t

-- What is told of all of them

module _ (outward : Bool) (w : Course New outward) (u : Telling w) (c : PfConfig) (filter : ℕ) (many : (n : ℕ) (rules : List Rule) → length (first_told n rules) ≡ length rules)
    (on : (t : Transit) → tell u filter t ≡ rules_used w.site outward (first_filter_rule c) c.filter t) where
  -- behind one
  told_behind : (past : Bool) (t : Transit) → leaves_told u filter past t ≡ cond past [] (rules_used w.site outward (first_filter_rule c) c.filter t)
  told_behind true t = refl
  told_behind false t = on t

  -- the first one or a later one
  first_or_later : (b : Bool) (n : ℕ) (nat : PfNat) (later : Option PfNat) (used : List ℕ) (t : Transit)
      → cond b (n ∷ used_behind c w.site w.p outward (Some nat) t) (used ++ used_behind c w.site w.p outward later t)
      ≡ cond b (n ∷ []) used ++ used_behind c w.site w.p outward (cond b (Some nat) later) t
  first_or_later true n nat later used t = refl
  first_or_later false n nat later used t = refl

  -- translations, behind which the filter rules stand
  pub translations_tell : (at n : ℕ) (nats : List PfNat) → Stands w at (translations_from outward filter at nats) → Bears u at (translations_told outward filter at n nats)
      → at + translation_widths outward nats ≡ filter → (t : Transit)
      → tell u at t ≡ translation_used w.site outward n nats t ++ used_behind c w.site w.p outward (chosen w.site outward nats t) t
  translations_tell at n [] s b wide t =
      let same : at ≡ filter = omega (arith, wide) in
      ap (λ place. tell u place t) same ∙ on t
  translations_tell at n (nat ∷ nats) s b wide t =
      let next = at + translation_width outward nat in
      let here = translation outward filter at nat in
      let more = translations_from outward filter next nats in
      let long : length here ≡ translation_width outward nat = translation_length outward filter at nat in
      let beside : length (first_told n here) ≡ length here = many n here in
      let parts = w.law.parts next here more s (omega (arith, long)) in
      let bears = u.law.parts next (first_told n here) (translations_told outward filter next (suc n) nats) b (omega (arith, long, beside)) in
      let h = holds nat.cond (sight w t) in
      let after = translated_by w.p outward nat t in
      translating_told outward w u filter at n nat.past nat.to nat.tag nat.cond parts.0 bears.0 (omega (arith, wide)) t
      ∙ ap (λ l. cond h (n ∷ l) (tell u next t)) (told_behind nat.past after)
      ∙ ap (cond h (n ∷ used_behind c w.site w.p outward (Some nat) t)) (translations_tell next (suc n) nats parts.1 bears.1 (omega (arith, wide)) t)
      ∙ first_or_later h n nat (chosen w.site outward nats t) (translation_used w.site outward (suc n) nats t) t
