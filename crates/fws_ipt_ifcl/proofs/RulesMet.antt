-- The rules to which a rule is unfolded do what the rule does.
use Rattle.std.proofs.Common.{◌≡◌, ℕ, suc, ◌+◌, ◌≤◌, Bool, true, false, cond, ◌&&◌, nat_eq, Option, Some, None, List, [], ◌∷◌, ◌++◌, length, Contains, arith, refl, sym, ap, ◌∙◌}
use Rattle.std.proofs.lemmas.Bool.{false≢true, and_parts}
use Rattle.std.proofs.lemmas.List.Folds.{list_all-append}
use Rattle.std.proofs.lemmas.List.Elements.{Contains-append_right}
use Rattle.std.specs.List.{list_all}
use Rattle.fws_num.specs.declared.prefix.Prefix.{Prefix}
use Rattle.fws_net.specs.declared.condition.Lit.{Lit}
use Rattle.fws_net.specs.declared.condition.Test.TheVariants.{Xmit, Outward}
use Rattle.fws_net.specs.declared.connection.Kind.{Kind}
use Rattle.fws_net.specs.declared.connection.Kind.TheVariants.{New, Est}
use Rattle.fws_net.specs.declared.outcome.End.{End}
use Rattle.fws_net.specs.declared.packet.Packet.{Packet}
use Rattle.fws_net.specs.declared.site.Site.{Site}
use Rattle.fws_net.specs.declared.transit.Transit.{Transit}
use Rattle.fws_net.specs.Conditions.{holds, lit_holds}
use Rattle.fws_net.specs.Connections.{is_est}
use Rattle.fws_net.specs.Ends.{host_end}
use Rattle.fws_net.specs.Faces.{face_addr}
use Rattle.fws_net.specs.Routes.{IsSound}
use Rattle.fws_net.specs.RouteLaws.{RoutesAreEntries}
use Rattle.fws_net.specs.Showing.{sending}
use Rattle.fws_ifcl.specs.declared.diagram.Act.{Act}
use Rattle.fws_ifcl.specs.declared.diagram.Act.TheVariants as acts
use Rattle.fws_ifcl.specs.declared.diagram.Act.TheVariants.{Src, Dst}
use Rattle.fws_ifcl.specs.declared.diagram.Rule.{Rule}
use Rattle.fws_ifcl.specs.declared.diagram.Stage.{Stage}
use Rattle.fws_ifcl.specs.declared.step.ChainEnd.{ChainEnd}
use Rattle.fws_ifcl.specs.declared.step.ChainEnd.TheVariants.{Accepted}
use Rattle.fws_ifcl.specs.Walk.{sees, step_of, stepped, rules_walk, back as back_there}
use Rattle.fws_rules.specs.Literals.{positive, negative}
use Rattle.fws_ifcl_rules.specs.Rules.{ruled, always}
use Rattle.fws_ipt.specs.declared.config.IptChain.{IptChain}
use Rattle.fws_ipt.specs.declared.config.IptGo.{IptGo}
use Rattle.fws_ipt.specs.declared.config.IptGo.TheVariants as goes
use Rattle.fws_ipt.specs.declared.config.IptRule.{IptRule}
use Rattle.fws_ipt.specs.declared.config.IptTable.{IptTable}
use Rattle.fws_ipt.specs.declared.config.IptTable.TheVariants.{Filter, Nat, Mangle}
use Rattle.fws_ipt.specs.declared.hook.Hook.{Hook}
use Rattle.fws_ipt.specs.declared.hook.Hook.TheVariants.{Output}
use Rattle.fws_ipt.specs.declared.passage.Passage.{Passage}
use Rattle.fws_ipt.specs.declared.passage.ChainEnd.{ChainEnd as IptEnd}
use Rattle.fws_ipt.specs.declared.passage.ChainEnd.TheVariants as ends
use Rattle.fws_ipt.specs.Refusals.{width_of, named_by}
use Rattle.fws_ipt.specs.Soundness.{fits}
use Rattle.fws_ipt.specs.Walk.{is_table, view_at, with_src, with_dst, with_mark, writes_src_at, writes_dst_at, masquerades_at, masqueraded, redirect_addr, back, act, rules_walk as ipt_rules}
use Rattle.fws_ipt_ifcl.specs.declared.side.SideTest.{SideTest}
use Rattle.fws_ipt_ifcl.specs.declared.side.SideTest.TheVariants.{First, Each}
use Rattle.fws_ipt_ifcl.specs.Blocks.{all_entries, guarded_writes, masquerading, redirecting, mapping, unfolded}
use Rattle.fws_ipt_ifcl.specs.Diagram.{unfolded_all}
use Rattle.fws_ipt_ifcl.specs.Fitting.{is_sideless, is_netmap}
use Rattle.fws_ipt_ifcl.proofs.Ends.{source_met, dest_met, netmap_met, masquerade_met, redirect_met}
use Rattle.fws_ipt_ifcl.proofs.Guarding.{is_write, are_writes, written_by, first_rule, from_here, guarded_walk, passed_over, write_step}
use Rattle.fws_ipt_ifcl.proofs.Asking.{IsGathered}
use Rattle.fws_ipt_ifcl.proofs.Sided.{source_each, masquerade_each, dest_each, redirect_each}
use Rattle.fws_ipt_ifcl.proofs.Scenes.{shown, shown_end, met, is_place, holds_sideless, branch, guard_branch}
use Rattle.fws_ipt_ifcl.proofs.Standing.{Stands, StandsAt}
use Rattle.fws_ipt_ifcl.proofs.Widths.{by_entry_width, redirecting_width}
use Rattle.fws_ipt_ifcl.proofs.Writes.{entries_write, redirecting_writes}

-- where a chain was left by its end the walks go on
back_met : (accepts : Bool) (k : Kind) (p : Packet) (go : Transit → ChainEnd) (next : Passage → IptEnd)
    → ((m : Passage) → Stands k p m → go (shown accepts m) ≡ shown_end accepts (next m))
    → (end : IptEnd) → StandsAt k p end → back_there go (shown_end accepts end) ≡ shown_end accepts (back next end)
back_met accepts k p go next on (ends.Accepted m) stands = refl
back_met accepts k p go next on ends.Dropped stands = refl
back_met accepts k p go next on (ends.Through m) stands = on m stands

-- a walk gathers how it ends
walk_gathered : (enter : ℕ → Transit → ChainEnd) (site : Site) (p : Packet) (k : Kind) (stage : Stage)
    → IsGathered site p k stage (λ at rules to t. rules_walk enter site p k stage at rules to t) (λ at end. end) (λ t. Accepted t)
walk_gathered enter site p k stage = record {
  here = from_here enter site p k stage;
  over = passed_over enter site p k stage;
  skips = λ at to test rest t. first_rule enter site p k stage at (ruled test (acts.Skip to)) rest t;
  writes = λ at act test rest t is.
      first_rule enter site p k stage at (ruled test act) rest t
      ∙ ap (λ x. cond (holds test (sees site k stage t)) x (rules_walk enter site p k stage (suc at) rest 0 t)) (write_step enter site p k stage act (rules_walk enter site p k stage (suc at) rest) t is);
  accepts = λ at test rest t. first_rule enter site p k stage at (ruled test acts.Accept) rest t;
}

-- no literal of a condition asks for the side
abbrev pub ArePlain : List Lit → Type 0
ArePlain test = list_all (λ (lit : Lit). is_sideless lit.test) test ≡ true

module _ (site : Site) (p : Packet) (k : Kind) (table : IptTable) (hook : Hook) (n : ℕ) (accepts : Bool) (enter : ℕ → Transit → ChainEnd) where
  abbrev here : Stage
  here = met n accepts table hook

  abbrev sight : Passage → List Lit → Bool
  sight m test = holds test (view_at site (is_est k) hook m)

  pub seen_alike : (test : List Lit) (m : Passage) → ArePlain test
      → holds test (sees site k here (shown accepts m)) ≡ sight m test
  seen_alike test m plain = holds_sideless test (view_at site (is_est k) hook m) (is_table Nat table && writes_src_at hook) plain

  -- a rule that stays one
  one_met : (at : ℕ) (test : List Lit) (one : Act) (rest : List Rule) (m : Passage) (x y : IptEnd) → ArePlain test
      → stepped enter (rules_walk enter site p k here (suc at) rest) (step_of p k one (shown accepts m)) ≡ shown_end accepts x
      → rules_walk enter site p k here (suc at) rest 0 (shown accepts m) ≡ shown_end accepts y
      → rules_walk enter site p k here at (ruled test one ∷ rest) 0 (shown accepts m) ≡ shown_end accepts (cond (sight m test) x y)
  one_met at test one rest m x y plain does on =
      first_rule enter site p k here at (ruled test one) rest (shown accepts m)
      ∙ branch accepts (holds test (sees site k here (shown accepts m))) (sight m test) (seen_alike test m plain) _ _ x y does on

  -- rules that write, where more literals stand behind the condition
  guard_met : (at : ℕ) (test more : List Lit) (writes rest : List Rule) (width : ℕ) (m : Passage) (x y : IptEnd)
      → list_all (λ (lit : Lit). is_sideless lit.test) test ≡ true → are_writes writes ≡ true → 3 + length writes ≡ width
      → cond (holds more (sees site k here (shown accepts m))) (Accepted (written_by site p k here writes (shown accepts m)))
      (rules_walk enter site p k here (at + width) rest 0 (shown accepts m)) ≡ shown_end accepts x
      → rules_walk enter site p k here (at + width) rest 0 (shown accepts m) ≡ shown_end accepts y
      → rules_walk enter site p k here at (guarded_writes at (test ++ more) writes ++ rest) 0 (shown accepts m) ≡ shown_end accepts (cond (sight m test) x y)
  guard_met at test more writes rest width m x y plain are wide does on =
      guarded_walk enter site p k here at (test ++ more) writes rest (shown accepts m) are
      ∙ ap (λ w. cond (holds (test ++ more) (sees site k here (shown accepts m))) (Accepted (written_by site p k here writes (shown accepts m)))
      (rules_walk enter site p k here (at + w) rest 0 (shown accepts m))) wide
      ∙ guard_branch accepts (holds (test ++ more) (sees site k here (shown accepts m))) (holds test (sees site k here (shown accepts m)))
      (holds more (sees site k here (shown accepts m))) (sight m test)
      (list_all-append (lit_holds (sees site k here (shown accepts m))) test more) (seen_alike test m plain) _ _ x y does on

  -- rules that write, under the condition alone
  write_met : (at : ℕ) (test : List Lit) (writes rest : List Rule) (width : ℕ) (m : Passage) (x y : IptEnd)
      → list_all (λ (lit : Lit). is_sideless lit.test) test ≡ true → are_writes writes ≡ true → 3 + length writes ≡ width
      → Accepted (written_by site p k here writes (shown accepts m)) ≡ shown_end accepts x
      → rules_walk enter site p k here (at + width) rest 0 (shown accepts m) ≡ shown_end accepts y
      → rules_walk enter site p k here at (guarded_writes at test writes ++ rest) 0 (shown accepts m) ≡ shown_end accepts (cond (sight m test) x y)
  write_met at test writes rest width m x y plain are wide does on =
      guarded_walk enter site p k here at test writes rest (shown accepts m) are
      ∙ ap (λ w. cond (holds test (sees site k here (shown accepts m))) (Accepted (written_by site p k here writes (shown accepts m)))
      (rules_walk enter site p k here (at + w) rest 0 (shown accepts m))) wide
      ∙ branch accepts (holds test (sees site k here (shown accepts m))) (sight m test) (seen_alike test m plain) _ _ x y does on

-- what a rule is unfolded to does what the rule does: with the rest of the rules behind it, and where the chain that it names
-- is entered alike
abbrev pub RuleMet : SideTest → Site → Packet → Hook → ℕ → Bool → (ℕ → Transit → ChainEnd) → (ℕ → Passage → IptEnd) → IptGo → IptTable → Kind → Type 0
RuleMet asks site p hook n accepts enter enter_too go table k =
    is_place table hook ≡ true
    → ((c : ℕ) → named_by go ≡ Some c → (m : Passage) → Stands k p m → enter (c + 3) (shown accepts m) ≡ shown_end accepts (enter_too c m))
    → ((c : ℕ) (m : Passage) → Stands k p m → StandsAt k p (enter_too c m))
    → (at : ℕ) (on_source : Bool) (test : List Lit) (rest : List Rule) (next : Passage → IptEnd)
    → ArePlain test
    → (is_netmap go ≡ true → on_source ≡ writes_src_at hook)
    → ((m : Passage) → Stands k p m
    → rules_walk enter site p k (met n accepts table hook) (at + width_of (length site.faces) go) rest 0 (shown accepts m) ≡ shown_end accepts (next m))
    → (m : Passage) → Stands k p m
    → rules_walk enter site p k (met n accepts table hook) at (unfolded asks site on_source at test go ++ rest) 0 (shown accepts m)
    ≡ shown_end accepts (cond (holds test (view_at site (is_est k) hook m)) (act enter_too next site p hook go m) (next m))

pub mapping_writes : (on_source : Bool) (net : Prefix) → are_writes (always (mapping on_source net) ∷ []) ≡ true
mapping_writes true net = refl
mapping_writes false net = refl

pub mapping_is_write : (on_source : Bool) (net : Prefix) → is_write (mapping on_source net) ≡ true
mapping_is_write true net = refl
mapping_is_write false net = refl

pub marked_stands : (k : Kind) (p : Packet) (v : ℕ) (m : Passage) → Stands k p m → Stands k p (with_mark v m)
marked_stands New p v m stands = stands
marked_stands (Est r) p v m stands = tt

-- rules of nat are met by new packets alone
pub only_new : (table : IptTable) (k : Kind) → is_table Nat table ≡ true → (is_table Nat table ≡ true → is_est k ≡ false) → (P : IptTable → Kind → Type 0) → P Nat New → P table k
only_new Nat New fit new P there = there
only_new Nat (Est r) fit new P there = absurd (false≢true (sym (new refl)))
only_new Filter k fit new P there = absurd (false≢true fit)
only_new Mangle k fit new P there = absurd (false≢true fit)

module _ (site : Site) (sound : IsSound site) (entries : RoutesAreEntries) (p : Packet) (of_site : p.entry ≤ length site.faces + 1)
    (hook : Hook) (own : hook ≡ Output → nat_eq p.entry 0 ≡ true) (n : ℕ) (accepts : Bool)
    (enter : ℕ → Transit → ChainEnd) (enter_too : ℕ → Passage → IptEnd) where
  abbrev Met : SideTest → IptGo → IptTable → Kind → Type 0
  Met asks go table k = RuleMet asks site p hook n accepts enter enter_too go table k

  abbrev there : Stage
  there = met n accepts Nat hook

  -- rules that write, where each of them asks for the side
  abbrev go_there : ℕ → List Rule → ℕ → Transit → ChainEnd
  go_there at rules to t = rules_walk enter site p New there at rules to t

  abbrev no_more : ℕ → ChainEnd → ChainEnd
  no_more at end = end

  abbrev take : Transit → ChainEnd
  take t = Accepted t

  gathered : IsGathered site p New there go_there no_more take
  gathered = walk_gathered enter site p New there

  -- the block's condition, as the walks see it
  block_met : (test : List Lit) (m : Passage) (x y : IptEnd) (a b : ChainEnd) → ArePlain test → a ≡ cond (holds test (sees site New there (shown accepts m))) (shown_end accepts x) b → b ≡ shown_end accepts y
      → a ≡ shown_end accepts (cond (holds test (view_at site false hook m)) x y)
  block_met test m x y a b plain is on =
      is ∙ branch accepts (holds test (sees site New there (shown accepts m))) (holds test (view_at site false hook m))
      (seen_alike site p New Nat hook n accepts enter test m plain) (shown_end accepts x) b x y refl on

  source_rule : (asks : SideTest) (e : End) → Met asks (goes.Source e) Nat New
  source_rule Each e place ent behind at on_source test rest next plain side on m stands =
      block_met test m (cond (writes_src_at hook) (ends.Accepted (with_src p e m)) (next m)) (next m) _ (rules_walk enter site p New there (at + 4) rest 0 (shown accepts m)) plain
      (source_each site sound entries p of_site hook own n accepts go_there no_more take gathered (shown_end accepts) (λ m. ends.Accepted m) (λ m. refl)
      e at test rest m (next m) (λ i low high x. refl) (on m stands)) (on m stands)
  source_rule First e place ent behind at on_source test rest next plain side on m stands =
      guard_met site p New Nat hook n accepts enter at test (positive Outward ∷ []) (always (Src e) ∷ []) rest 4 m _ _ plain refl refl
      (source_met site sound entries p n accepts hook e m _ (next m) (on m stands)) (on m stands)

  masquerade_rule : (asks : SideTest) → Met asks goes.Masquerade Nat New
  masquerade_rule Each place ent behind at on_source test rest next plain side on m stands =
      let by_sent = back next (masqueraded site p (sending site m.packet) m) in
      block_met test m (cond (masquerades_at hook) by_sent (next m)) (next m) _ (rules_walk enter site p New there (at + (length site.faces + 4)) rest 0 (shown accepts m)) plain
      (masquerade_each site sound entries p of_site hook own n accepts go_there no_more take gathered (shown_end accepts) (λ m. ends.Accepted m) (λ m. refl)
      at test rest m (next m) by_sent stands (ap (λ o. back next (masqueraded site p o m))) (λ x. ap (λ o. back next (masqueraded site p o m)))
      (λ i low high x. refl) (on m stands)) (on m stands)
  masquerade_rule First place ent behind at on_source test rest next plain side on m stands =
      let act : ℕ → Act = λ entry. Src (host_end (face_addr site entry) None) in
      let many : length (masquerading site) ≡ length site.faces + 1 = by_entry_width Xmit act 1 (length site.faces + 1) in
      let wide : 3 + length (masquerading site) ≡ length site.faces + 4 = omega (arith, many) in
      guard_met site p New Nat hook n accepts enter at test (positive Outward ∷ positive (Xmit (all_entries site)) ∷ []) (masquerading site) rest (length site.faces + 4) m _ _ plain
      (entries_write Xmit act (λ e. refl) 1 (length site.faces + 1)) wide
      (masquerade_met site sound entries p n accepts hook m stands _ next (on m stands)) (on m stands)

  dest_rule : (asks : SideTest) (e : End) → Met asks (goes.Dest e) Nat New
  dest_rule Each e place ent behind at on_source test rest next plain side on m stands =
      block_met test m (cond (writes_dst_at hook) (ends.Accepted (with_dst p e m)) (next m)) (next m) _ (rules_walk enter site p New there (at + 4) rest 0 (shown accepts m)) plain
      (dest_each site sound entries p of_site hook own n accepts go_there no_more take gathered (shown_end accepts) (λ m. ends.Accepted m) (λ m. refl)
      place e at test rest m (next m) (λ i low high x. refl) (on m stands)) (on m stands)
  dest_rule First e place ent behind at on_source test rest next plain side on m stands =
      guard_met site p New Nat hook n accepts enter at test (negative Outward ∷ []) (always (Dst e) ∷ []) rest 4 m _ _ plain refl refl
      (dest_met site sound entries p n accepts hook place m (shown accepts (with_dst p e m)) e _ (next m) (λ is. refl) (on m stands)) (on m stands)

  redirect_rule : (asks : SideTest) (port : Option ℕ) → Met asks (goes.Redirect port) Nat New
  redirect_rule Each port place ent behind at on_source test rest next plain side on m stands =
      block_met test m (cond (writes_dst_at hook) (ends.Accepted (with_dst p (host_end (redirect_addr site p) port) m)) (next m)) (next m) _
      (rules_walk enter site p New there (at + (length site.faces + 5)) rest 0 (shown accepts m)) plain
      (redirect_each site sound entries p of_site hook own n accepts go_there no_more take gathered (shown_end accepts) (λ m. ends.Accepted m) (λ m. refl)
      place port at test rest m (next m) stands (λ i low high x. refl) (on m stands)) (on m stands)
  redirect_rule First port place ent behind at on_source test rest next plain side on m stands =
      let many : length (redirecting site port) ≡ length site.faces + 2 = redirecting_width site port in
      let wide : 3 + length (redirecting site port) ≡ length site.faces + 5 = omega (arith, many) in
      guard_met site p New Nat hook n accepts enter at test (negative Outward ∷ []) (redirecting site port) rest (length site.faces + 5) m _ _ plain
      (redirecting_writes site port) wide
      (dest_met site sound entries p n accepts hook place m _ (host_end (redirect_addr site p) port) _ (next m)
      (redirect_met site sound entries p n accepts hook port m stands of_site own) (on m stands)) (on m stands)

  netmap_rule : (asks : SideTest) (net : Prefix) → Met asks (goes.Netmap net) Nat New
  netmap_rule asks net place ent behind at on_source test rest next plain side on m stands =
      write_met site p New Nat hook n accepts enter at test (always (mapping on_source net) ∷ []) rest 4 m _ _ plain (mapping_writes on_source net) refl
      (netmap_met site sound entries p n accepts hook place on_source (side refl) net m (next m)) (on m stands)

  -- the rule behind one that stays one
  next_rule : (table : IptTable) (k : Kind) (at : ℕ) (rest : List Rule) (next : Passage → IptEnd)
      → ((m : Passage) → Stands k p m → rules_walk enter site p k (met n accepts table hook) (at + 1) rest 0 (shown accepts m) ≡ shown_end accepts (next m))
      → (m : Passage) → Stands k p m → rules_walk enter site p k (met n accepts table hook) (suc at) rest 0 (shown accepts m) ≡ shown_end accepts (next m)
  next_rule table k at rest next on m stands =
      let same : suc at ≡ at + 1 = omega arith in
      ap (λ i. rules_walk enter site p k (met n accepts table hook) i rest 0 (shown accepts m)) same ∙ on m stands

  -- every rule
  pub rule_met : (asks : SideTest) (chains : List IptChain) (table : IptTable) (k : Kind) (go : IptGo) → fits table chains go ≡ true → (is_table Nat table ≡ true → is_est k ≡ false)
      → Met asks go table k
  rule_met asks chains table k goes.Accept fit new = λ place ent behind at on_source test rest next plain side on m stands.
      one_met site p k table hook n accepts enter at test acts.Accept rest m (ends.Accepted m) (next m) plain refl (next_rule table k at rest next on m stands)
  rule_met asks chains table k goes.Drop fit new = λ place ent behind at on_source test rest next plain side on m stands.
      one_met site p k table hook n accepts enter at test acts.Drop rest m ends.Dropped (next m) plain refl (next_rule table k at rest next on m stands)
  rule_met asks chains table k goes.Return fit new = λ place ent behind at on_source test rest next plain side on m stands.
      one_met site p k table hook n accepts enter at test acts.Return rest m (ends.Through m) (next m) plain refl (next_rule table k at rest next on m stands)
  rule_met asks chains table k goes.Next fit new = λ place ent behind at on_source test rest next plain side on m stands.
      one_met site p k table hook n accepts enter at test (acts.Skip (at + 1)) rest m (next m) (next m) plain
      (from_here enter site p k (met n accepts table hook) (suc at) rest (at + 1) (shown accepts m) (omega arith) ∙ next_rule table k at rest next on m stands)
      (next_rule table k at rest next on m stands)
  rule_met asks chains table k (goes.Jump c) fit new = λ place ent behind at on_source test rest next plain side on m stands.
      one_met site p k table hook n accepts enter at test (acts.Call (c + 3)) rest m (back next (enter_too c m)) (next m) plain
      (ap (back_there (rules_walk enter site p k (met n accepts table hook) (suc at) rest 0)) (ent c refl m stands)
      ∙ back_met accepts k p (rules_walk enter site p k (met n accepts table hook) (suc at) rest 0) next (next_rule table k at rest next on) (enter_too c m) (behind c m stands))
      (next_rule table k at rest next on m stands)
  rule_met asks chains table k (goes.Goto c) fit new = λ place ent behind at on_source test rest next plain side on m stands.
      one_met site p k table hook n accepts enter at test (acts.Goto (c + 3)) rest m (enter_too c m) (next m) plain (ent c refl m stands)
      (next_rule table k at rest next on m stands)
  rule_met asks chains table k (goes.Mark v) fit new = λ place ent behind at on_source test rest next plain side on m stands.
      one_met site p k table hook n accepts enter at test (acts.OnlyTag v) rest m (next (with_mark v m)) (next m) plain
      (next_rule table k at rest next on (with_mark v m) (marked_stands k p v m stands)) (next_rule table k at rest next on m stands)
  rule_met asks chains table k (goes.Source e) fit new = only_new table k fit new (Met asks (goes.Source e)) (source_rule asks e)
  rule_met asks chains table k goes.Masquerade fit new = only_new table k fit new (Met asks goes.Masquerade) (masquerade_rule asks)
  rule_met asks chains table k (goes.Dest e) fit new = only_new table k fit new (Met asks (goes.Dest e)) (dest_rule asks e)
  rule_met asks chains table k (goes.Redirect port) fit new = only_new table k fit new (Met asks (goes.Redirect port)) (redirect_rule asks port)
  rule_met asks chains table k (goes.Netmap net) fit new = only_new table k fit new (Met asks (goes.Netmap net)) (netmap_rule asks net)

  -- all rules of a list
  pub rules_met : (asks : SideTest) (chains : List IptChain) (table : IptTable) (k : Kind) (on_source : Bool) → (is_table Nat table ≡ true → is_est k ≡ false) → is_place table hook ≡ true
      → ((c : ℕ) (m : Passage) → Stands k p m → StandsAt k p (enter_too c m))
      → (rules : List IptRule)
      → list_all (λ (rule : IptRule). fits table chains rule.go) rules ≡ true
      → list_all (λ (rule : IptRule). list_all (λ (lit : Lit). is_sideless lit.test) rule.cond) rules ≡ true
      → ((rule : IptRule) → Contains rules rule → is_netmap rule.go ≡ true → on_source ≡ writes_src_at hook)
      → ((rule : IptRule) → Contains rules rule → (c : ℕ) → named_by rule.go ≡ Some c → (m : Passage) → Stands k p m → enter (c + 3) (shown accepts m) ≡ shown_end accepts (enter_too c m))
      → (at : ℕ) (m : Passage) → Stands k p m
      → rules_walk enter site p k (met n accepts table hook) at (unfolded_all asks site on_source at rules) 0 (shown accepts m)
      ≡ shown_end accepts (ipt_rules enter_too site p (is_est k) hook rules m)
  rules_met asks chains table k on_source new place behind [] fit plain side ent at m stands = refl
  rules_met asks chains table k on_source new place behind (r ∷ rs) fit plain side ent at m stands =
      let fits_both = and_parts (fits table chains r.go) (list_all (λ (rule : IptRule). fits table chains rule.go) rs) fit in
      let plain_both = and_parts (list_all (λ (lit : Lit). is_sideless lit.test) r.cond) (list_all (λ (rule : IptRule). list_all (λ (lit : Lit). is_sideless lit.test) rule.cond) rs) plain in
      let first : Contains (r ∷ rs) r = (0, omega arith, refl) in
      rule_met asks chains table k r.go fits_both.0 new place (ent r first) behind at on_source r.cond (unfolded_all asks site on_source (at + width_of (length site.faces) r.go) rs)
      (ipt_rules enter_too site p (is_est k) hook rs) plain_both.0 (side r first)
      (λ m stands. rules_met asks chains table k on_source new place behind rs fits_both.1 plain_both.1
      (λ rule there. side rule (Contains-append_right (r ∷ []) rs rule there)) (λ rule there. ent rule (Contains-append_right (r ∷ []) rs rule there))
      (at + width_of (length site.faces) r.go) m stands) m stands
