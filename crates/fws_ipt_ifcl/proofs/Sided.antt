-- What rules that write and ask for the side each gather is what the rules of nat to which they belong gather.
use Rattle.std.proofs.Common.{◌≡◌, ℕ, suc, ◌+◌, ◌≤◌, Bool, true, false, cond, ◌&&◌, not, nat_eq, Option, Some, None, List, [], ◌∷◌, ◌++◌, length, arith, refl, sym, ap, ◌∙◌}
use Rattle.std.proofs.lemmas.Bool.{false≢true}
use Rattle.fws_net.specs.declared.condition.Lit.{Lit}
use Rattle.fws_net.specs.declared.condition.Test.TheVariants.{Xmit}
use Rattle.fws_net.specs.declared.connection.Kind.TheVariants.{New}
use Rattle.fws_net.specs.declared.outcome.End.{End}
use Rattle.fws_net.specs.declared.packet.Packet.{Packet}
use Rattle.fws_net.specs.declared.site.Site.{Site}
use Rattle.fws_net.specs.declared.transit.Transit.{Transit}
use Rattle.fws_net.specs.Conditions.{holds, is_shown}
use Rattle.fws_net.specs.Ends.{host_end}
use Rattle.fws_net.specs.Faces.{face_addr}
use Rattle.fws_net.specs.Routes.{IsSound}
use Rattle.fws_net.specs.RouteLaws.{RoutesAreEntries}
use Rattle.fws_net.specs.Showing.{sending}
use Rattle.fws_ifcl.specs.declared.diagram.Act.TheVariants.{Src, Dst}
use Rattle.fws_ifcl.specs.declared.diagram.Rule.{Rule}
use Rattle.fws_ifcl.specs.declared.diagram.Stage.{Stage}
use Rattle.fws_ifcl.specs.Walk.{sees}
use Rattle.fws_rules.specs.Literals.{positive}
use Rattle.fws_ifcl_rules.specs.Rules.{always}
use Rattle.fws_ipt.specs.declared.config.IptTable.TheVariants.{Nat}
use Rattle.fws_ipt.specs.declared.hook.Hook.{Hook}
use Rattle.fws_ipt.specs.declared.hook.Hook.TheVariants.{Prerouting, Input, Forward, Output, Postrouting}
use Rattle.fws_ipt.specs.declared.passage.Passage.{Passage}
use Rattle.fws_ipt.specs.Walk.{with_src, with_dst, writes_dst_at, writes_src_at, masquerades_at, redirect_addr}
use Rattle.fws_ipt_ifcl.specs.declared.side.SideTest.TheVariants.{Each}
use Rattle.fws_ipt_ifcl.specs.Blocks.{all_entries, masquerading, redirecting, side_writes}
use Rattle.fws_ipt_ifcl.proofs.Asking.{IsGathered, Quiet, asked}
use Rattle.fws_ipt_ifcl.proofs.Ends.{IsEntry, sent_within, masquerade_none, masquerade_writes, still_sent, redirect_met}
use Rattle.fws_ipt_ifcl.proofs.Guarding.{written_by}
use Rattle.fws_ipt_ifcl.proofs.Scenes.{shown, met, is_place}
use Rattle.fws_ipt_ifcl.proofs.Standing.{Stands}
use Rattle.fws_ipt_ifcl.proofs.Widths.{masquerading_width, redirecting_width}
use Rattle.fws_ipt_ifcl.proofs.Writes.{between, masquerading_writes, redirecting_writes}

-- where sources aren't written, destinations are
other_side : (hook : Hook) → is_place Nat hook ≡ true → not (writes_src_at hook) ≡ writes_dst_at hook
other_side Prerouting is = refl
other_side Input is = refl
other_side Forward is = absurd (false≢true is)
other_side Output is = refl
other_side Postrouting is = refl

module _ {X Y : Type 0} (site : Site) (sound : IsSound site) (entries : RoutesAreEntries) (p : Packet) (n : ℕ) (accepts : Bool)
    (go : ℕ → List Rule → ℕ → Transit → X) (accept : Transit → X)
    (show : Y → X) (accept_too : Passage → Y) (same : (m : Passage) → accept (shown accepts m) ≡ show (accept_too m)) where
  -- behind the rules of MASQUERADE
  abbrev behind : Hook → ℕ → List Rule → Transit → X
  behind hook far rest t = cond (holds (positive (Xmit (all_entries site)) ∷ []) (sees site New (met n accepts Nat hook) t)) (accept t) (go far rest 0 t)

  -- no sending interface is shown: no rule writes, and the stage doesn't end
  masquerade_passed : (hook : Hook) (m : Passage) (far : ℕ) (rest : List Rule) (next : Y) → (sees site New (met n accepts Nat hook) (shown accepts m)).xmit ≡ None
      → go far rest 0 (shown accepts m) ≡ show next
      → behind hook far rest (written_by site p New (met n accepts Nat hook) (masquerading site) (shown accepts m)) ≡ show next
  masquerade_passed hook m far rest next none on =
      ap (behind hook far rest) (masquerade_none site sound entries p n accepts hook m none)
      ∙ ap (λ o. cond (is_shown o (all_entries site) && true) (accept (shown accepts m)) (go far rest 0 (shown accepts m))) none
      ∙ on

  masquerade_sent : (m : Passage) → Stands New p m → (far : ℕ) (rest : List Rule) (next by_sent : Y) (o : Option ℕ) → sending site m.packet ≡ o
      → (o ≡ None → by_sent ≡ next) → ((x : ℕ) → o ≡ Some x → by_sent ≡ accept_too (with_src p (host_end (face_addr site x) None) m))
      → go far rest 0 (shown accepts m) ≡ show next
      → behind Postrouting far rest (written_by site p New (met n accepts Nat Postrouting) (masquerading site) (shown accepts m)) ≡ show by_sent
  masquerade_sent m stands far rest next by_sent None sent none some on =
      masquerade_passed Postrouting m far rest next sent on ∙ ap show (sym (none refl))
  masquerade_sent m stands far rest next by_sent (Some x) sent none some on =
      let within : IsEntry site x = sent_within site sound entries m.packet x sent in
      let made = with_src p (host_end (face_addr site x) None) m in
      ap (behind Postrouting far rest) (masquerade_writes site sound entries p n accepts m stands x sent within)
      ∙ ap (λ o. cond (is_shown o (all_entries site) && true) (accept (shown accepts made)) (go far rest 0 (shown accepts made))) (still_sent site p m stands x sent)
      ∙ ap (λ b. cond (b && true) (accept (shown accepts made)) (go far rest 0 (shown accepts made))) (between 1 (length site.faces + 1) x within.0 within.1)
      ∙ same made
      ∙ ap show (sym (some x refl))

  pub masquerade_acted : (hook : Hook) → writes_src_at hook ≡ true → (m : Passage) → Stands New p m → (far : ℕ) (rest : List Rule) (next by_sent : Y)
      → (sending site m.packet ≡ None → by_sent ≡ next)
      → ((x : ℕ) → sending site m.packet ≡ Some x → by_sent ≡ accept_too (with_src p (host_end (face_addr site x) None) m))
      → go far rest 0 (shown accepts m) ≡ show next
      → behind hook far rest (written_by site p New (met n accepts Nat hook) (masquerading site) (shown accepts m)) ≡ show (cond (masquerades_at hook) by_sent next)
  masquerade_acted Prerouting is m stands far rest next by_sent none some on = absurd (false≢true is)
  masquerade_acted Input is m stands far rest next by_sent none some on = masquerade_passed Input m far rest next refl on
  masquerade_acted Forward is m stands far rest next by_sent none some on = absurd (false≢true is)
  masquerade_acted Output is m stands far rest next by_sent none some on = absurd (false≢true is)
  masquerade_acted Postrouting is m stands far rest next by_sent none some on = masquerade_sent m stands far rest next by_sent (sending site m.packet) refl none some on

-- where sources aren't written, none is masqueraded
leaves_none : (hook : Hook) → writes_src_at hook ≡ false → masquerades_at hook ≡ false
leaves_none Prerouting is = refl
leaves_none Input is = absurd (false≢true (sym is))
leaves_none Forward is = refl
leaves_none Output is = refl
leaves_none Postrouting is = absurd (false≢true (sym is))

module _ {X Y : Type 0} (site : Site) (sound : IsSound site) (entries : RoutesAreEntries) (p : Packet) (of_site : p.entry ≤ length site.faces + 1) (hook : Hook)
    (own : hook ≡ Output → nat_eq p.entry 0 ≡ true) (n : ℕ) (accepts : Bool)
    (go : ℕ → List Rule → ℕ → Transit → X) (add : ℕ → X → X) (accept : Transit → X) (is : IsGathered site p New (met n accepts Nat hook) go add accept)
    (show : Y → X) (accept_too : Passage → Y) (same : (m : Passage) → accept (shown accepts m) ≡ show (accept_too m)) where
  abbrev there : Stage
  there = met n accepts Nat hook

  abbrev sight : List Lit → Passage → Bool
  sight test m = holds test (sees site New there (shown accepts m))

  -- nothing belongs to the places behind the first of a block
  abbrev pub QuietBlock : ℕ → ℕ → Type 0
  QuietBlock at width = Quiet site p New there go add accept is true (suc at) (at + width)

  chosen : (b : Bool) (a c : X) (x y : Y) → (b ≡ true → a ≡ show x) → c ≡ show y → cond b a c ≡ show (cond b x y)
  chosen true a c x y e f = e refl
  chosen false a c x y e f = f

  masqueraded_or : (b : Bool) (a c : X) (x y : Y) → (b ≡ true → a ≡ show (cond (masquerades_at hook) x y)) → (b ≡ false → masquerades_at hook ≡ false) → c ≡ show y
      → cond b a c ≡ show (cond (masquerades_at hook) x y)
  masqueraded_or true a c x y e none f = e refl
  masqueraded_or false a c x y e none f = f ∙ ap (λ h. show (cond h x y)) (sym (none refl))

  branched : (h : Bool) (at : ℕ) (a c : X) (x : Y) → a ≡ show x → cond h (add at a) c ≡ cond h (add at (show x)) c
  branched true at a c x e = ap (add at) e
  branched false at a c x e = refl

  -- SNAT
  pub source_each : (e : End) (at : ℕ) (test : List Lit) (rest : List Rule) (m : Passage) (next : Y) → QuietBlock at 4 → go (at + 4) rest 0 (shown accepts m) ≡ show next
      → go at (side_writes Each at test true [] (always (Src e) ∷ []) ++ rest) 0 (shown accepts m)
      ≡ cond (sight test m) (add at (show (cond (writes_src_at hook) (accept_too (with_src p e m)) next))) (go (at + 4) rest 0 (shown accepts m))
  source_each e at test rest m next quiet on =
      asked site p New there go add accept is true (writes_src_at hook) (λ t. refl) at test (always (Src e) ∷ []) [] rest (shown accepts m) 4 refl refl quiet
      ∙ branched (sight test m) at _ (go (at + 4) rest 0 (shown accepts m)) _
      (chosen (writes_src_at hook) _ _ (accept_too (with_src p e m)) next (λ b. same (with_src p e m)) on)

  -- DNAT
  pub dest_each : is_place Nat hook ≡ true → (e : End) (at : ℕ) (test : List Lit) (rest : List Rule) (m : Passage) (next : Y) → QuietBlock at 4 → go (at + 4) rest 0 (shown accepts m) ≡ show next
      → go at (side_writes Each at test false [] (always (Dst e) ∷ []) ++ rest) 0 (shown accepts m)
      ≡ cond (sight test m) (add at (show (cond (writes_dst_at hook) (accept_too (with_dst p e m)) next))) (go (at + 4) rest 0 (shown accepts m))
  dest_each place e at test rest m next quiet on =
      asked site p New there go add accept is false (writes_dst_at hook) (λ t. other_side hook place) at test (always (Dst e) ∷ []) [] rest (shown accepts m) 4 refl refl quiet
      ∙ branched (sight test m) at _ (go (at + 4) rest 0 (shown accepts m)) _
      (chosen (writes_dst_at hook) _ _ (accept_too (with_dst p e m)) next (λ b. same (with_dst p e m)) on)

  -- REDIRECT
  pub redirect_each : is_place Nat hook ≡ true → (port : Option ℕ) (at : ℕ) (test : List Lit) (rest : List Rule) (m : Passage) (next : Y) → Stands New p m
      → QuietBlock at (length site.faces + 5) → go (at + (length site.faces + 5)) rest 0 (shown accepts m) ≡ show next
      → go at (side_writes Each at test false [] (redirecting site port) ++ rest) 0 (shown accepts m)
      ≡ cond (sight test m) (add at (show (cond (writes_dst_at hook) (accept_too (with_dst p (host_end (redirect_addr site p) port) m)) next)))
      (go (at + (length site.faces + 5)) rest 0 (shown accepts m))
  redirect_each place port at test rest m next stands quiet on =
      let many : length (redirecting site port) ≡ length site.faces + 2 = redirecting_width site port in
      let wide : 3 + length (redirecting site port) ≡ length site.faces + 5 = omega (arith, many) in
      let made = with_dst p (host_end (redirect_addr site p) port) m in
      asked site p New there go add accept is false (writes_dst_at hook) (λ t. other_side hook place) at test (redirecting site port) [] rest (shown accepts m) (length site.faces + 5)
      (redirecting_writes site port) wide quiet
      ∙ branched (sight test m) at _ (go (at + (length site.faces + 5)) rest 0 (shown accepts m)) _
      (chosen (writes_dst_at hook) _ _ (accept_too made) next
      (λ b. ap accept (redirect_met site sound entries p n accepts hook port m stands of_site own b) ∙ same made) on)

  -- MASQUERADE
  pub masquerade_each : (at : ℕ) (test : List Lit) (rest : List Rule) (m : Passage) (next by_sent : Y) → Stands New p m
      → (sending site m.packet ≡ None → by_sent ≡ next)
      → ((x : ℕ) → sending site m.packet ≡ Some x → by_sent ≡ accept_too (with_src p (host_end (face_addr site x) None) m))
      → QuietBlock at (length site.faces + 4) → go (at + (length site.faces + 4)) rest 0 (shown accepts m) ≡ show next
      → go at (side_writes Each at test true (positive (Xmit (all_entries site)) ∷ []) (masquerading site) ++ rest) 0 (shown accepts m)
      ≡ cond (sight test m) (add at (show (cond (masquerades_at hook) by_sent next))) (go (at + (length site.faces + 4)) rest 0 (shown accepts m))
  masquerade_each at test rest m next by_sent stands none some quiet on =
      let many : length (masquerading site) ≡ length site.faces + 1 = masquerading_width site in
      let wide : 3 + length (masquerading site) ≡ length site.faces + 4 = omega (arith, many) in
      let far = at + (length site.faces + 4) in
      asked site p New there go add accept is true (writes_src_at hook) (λ t. refl) at test (masquerading site) (positive (Xmit (all_entries site)) ∷ []) rest (shown accepts m) (length site.faces + 4)
      (masquerading_writes site) wide quiet
      ∙ branched (sight test m) at _ (go far rest 0 (shown accepts m)) _
      (masqueraded_or (writes_src_at hook) _ _ by_sent next
      (λ b. masquerade_acted site sound entries p n accepts go accept show accept_too same hook b m stands far rest next by_sent none some on)
      (leaves_none hook) on)
