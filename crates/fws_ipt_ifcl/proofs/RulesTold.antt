-- What is told of the rules to which a rule is unfolded is what the rule's walk uses.
use Rattle.std.proofs.Common.{◌≡◌, ℕ, suc, ◌+◌, ◌<◌, ◌≤◌, Bool, true, false, cond, nat_eq, Option, Some, List, [], ◌∷◌, ◌++◌, length, Contains, arith, refl, sym, ap, ◌∙◌}
use Rattle.std.proofs.lemmas.Bool.{false≢true, and_parts}
use Rattle.std.proofs.lemmas.Grind.{flat_map-append}
use Rattle.std.proofs.lemmas.List.Elements.{Contains-append_right}
use Rattle.std.specs.List.{list_all}
use Rattle.fws_num.specs.declared.prefix.Prefix.{Prefix}
use Rattle.fws_net.specs.declared.condition.Lit.{Lit}
use Rattle.fws_net.specs.declared.connection.Kind.{Kind}
use Rattle.fws_net.specs.declared.connection.Kind.TheVariants.{New}
use Rattle.fws_net.specs.declared.outcome.End.{End}
use Rattle.fws_net.specs.declared.packet.Packet.{Packet}
use Rattle.fws_net.specs.declared.site.Site.{Site}
use Rattle.fws_net.specs.declared.transit.Transit.{Transit}
use Rattle.fws_net.specs.Conditions.{holds}
use Rattle.fws_net.specs.Connections.{is_est}
use Rattle.fws_net.specs.Routes.{IsSound}
use Rattle.fws_net.specs.RouteLaws.{RoutesAreEntries}
use Rattle.fws_net.specs.Showing.{sending}
use Rattle.fws_ifcl.specs.declared.diagram.Act.{Act}
use Rattle.fws_ifcl.specs.declared.diagram.Act.TheVariants as acts
use Rattle.fws_ifcl.specs.declared.diagram.Place.{Place}
use Rattle.fws_ifcl.specs.declared.diagram.Rule.{Rule}
use Rattle.fws_ifcl.specs.declared.diagram.Spot.{Spot}
use Rattle.fws_ifcl.specs.declared.diagram.Stage.{Stage}
use Rattle.fws_ifcl.specs.declared.step.ChainEnd.{ChainEnd}
use Rattle.fws_ifcl.specs.Spots.{numbers_at, told}
use Rattle.fws_ifcl.specs.Uses.{used_back as used_back_there, used_behind, rules_used}
use Rattle.fws_ifcl.specs.Walk.{sees, step_of}
use Rattle.fws_ifcl_rules.specs.Rules.{ruled}
use Rattle.fws_ipt.specs.declared.config.IptChain.{IptChain}
use Rattle.fws_ipt.specs.declared.config.IptGo.{IptGo}
use Rattle.fws_ipt.specs.declared.config.IptGo.TheVariants as goes
use Rattle.fws_ipt.specs.declared.config.IptRule.{IptRule}
use Rattle.fws_ipt.specs.declared.config.IptTable.{IptTable}
use Rattle.fws_ipt.specs.declared.config.IptTable.TheVariants.{Nat}
use Rattle.fws_ipt.specs.declared.hook.Hook.{Hook}
use Rattle.fws_ipt.specs.declared.hook.Hook.TheVariants.{Prerouting, Input, Forward, Output, Postrouting}
use Rattle.fws_ipt.specs.declared.passage.Passage.{Passage}
use Rattle.fws_ipt.specs.declared.passage.ChainEnd.{ChainEnd as IptEnd}
use Rattle.fws_ipt.specs.declared.passage.ChainEnd.TheVariants as ends
use Rattle.fws_ipt.specs.Refusals.{width_of, named_by}
use Rattle.fws_ipt.specs.Soundness.{fits}
use Rattle.fws_ipt.specs.Uses.{used_back, act_used, rules_used as ipt_used}
use Rattle.fws_ipt.specs.Walk.{is_table, view_at, with_mark, writes_src_at, writes_dst_at, masquerades_at, masqueraded}
use Rattle.fws_ipt_ifcl.specs.declared.side.SideTest.TheVariants.{Each}
use Rattle.fws_ipt_ifcl.specs.Blocks.{mapping, unfolded}
use Rattle.fws_ipt_ifcl.specs.Diagram.{unfolded_all}
use Rattle.fws_ipt_ifcl.specs.Fitting.{is_sideless}
use Rattle.fws_ipt_ifcl.proofs.Asking.{IsGathered, met_write}
use Rattle.fws_ipt_ifcl.proofs.Numbering.{AreNumbered}
use Rattle.fws_ipt_ifcl.proofs.RulesMet.{ArePlain, seen_alike, only_new, marked_stands, mapping_is_write}
use Rattle.fws_ipt_ifcl.proofs.Scenes.{shown, shown_end, met, is_place}
use Rattle.fws_ipt_ifcl.proofs.Sided.{source_each, masquerade_each, dest_each, redirect_each}
use Rattle.fws_ipt_ifcl.proofs.Standing.{Stands, StandsAt}
use Rattle.fws_ipt_ifcl.proofs.Telling.{tells, first_told, told_gathered}

branch : {X : Type 0} (h same : Bool) → h ≡ same → (a b x y : X) → a ≡ x → b ≡ y → cond h a b ≡ cond same x y
branch h true is a b x y e f = ap (λ c. cond c a b) is ∙ e
branch h false is a b x y e f = ap (λ c. cond c a b) is ∙ f

-- what is told where a chain was left by its end
back_told : (accepts : Bool) (k : Kind) (p : Packet) (spots : List Spot) (go : Transit → List Place) (next : Passage → List ℕ)
    → ((m : Passage) → Stands k p m → told spots (go (shown accepts m)) ≡ next m)
    → (end : IptEnd) → StandsAt k p end → told spots (used_back_there go (shown_end accepts end)) ≡ used_back next end
back_told accepts k p spots go next on (ends.Accepted m) stands = refl
back_told accepts k p spots go next on ends.Dropped stands = refl
back_told accepts k p spots go next on (ends.Through m) stands = on m stands

-- NETMAP writes wherever nat has a chain
netmap_ends : (hook : Hook) → is_place Nat hook ≡ true → (l : List ℕ) → cond (writes_dst_at hook) [] (cond (writes_src_at hook) [] l) ≡ []
netmap_ends Prerouting is l = refl
netmap_ends Input is l = refl
netmap_ends Forward is l = absurd (false≢true is)
netmap_ends Output is l = refl
netmap_ends Postrouting is l = refl

module _ (site : Site) (sound : IsSound site) (entries : RoutesAreEntries) (p : Packet) (of_site : p.entry ≤ length site.faces + 1)
    (hook : Hook) (own : hook ≡ Output → nat_eq p.entry 0 ≡ true) (n : ℕ) (accepts : Bool)
    (enter : ℕ → Transit → ChainEnd) (enter_too : ℕ → Passage → IptEnd) (used : ℕ → Transit → List Place) (used_too : ℕ → Passage → List ℕ) (spots : List Spot) (c : ℕ) where
  -- the numbers at a place of the chain
  abbrev numbers : ℕ → List ℕ
  numbers at = numbers_at spots (record { chain = c; rule = at })

  -- what is told from rules on, for a class at a table
  abbrev tell : IptTable → Kind → ℕ → List Rule → ℕ → Transit → List ℕ
  tell table k at rules to t = tells used enter spots c site p k (met n accepts table hook) at rules to t

  -- what is told of the rules to which a rule is unfolded is its number where its condition holds, and what its act uses
  abbrev Told : IptGo → IptTable → Kind → Type 0
  Told go table k =
      is_place table hook ≡ true
      → ((d : ℕ) → named_by go ≡ Some d → (m : Passage) → Stands k p m → enter (d + 3) (shown accepts m) ≡ shown_end accepts (enter_too d m))
      → ((d : ℕ) → named_by go ≡ Some d → (m : Passage) → Stands k p m → told spots (used (d + 3) (shown accepts m)) ≡ used_too d m)
      → ((d : ℕ) (m : Passage) → Stands k p m → StandsAt k p (enter_too d m))
      → (at number : ℕ) (on_source : Bool) (test : List Lit) (rest : List Rule) (next : Passage → List ℕ)
      → ArePlain test
      → numbers at ≡ number ∷ []
      → ((i : ℕ) → suc at ≤ i → i < at + width_of (length site.faces) go → numbers i ≡ [])
      → ((m : Passage) → Stands k p m → tell table k (at + width_of (length site.faces) go) rest 0 (shown accepts m) ≡ next m)
      → (m : Passage) → Stands k p m
      → tell table k at (unfolded Each site on_source at test go ++ rest) 0 (shown accepts m)
      ≡ cond (holds test (view_at site (is_est k) hook m)) (number ∷ act_used used_too enter_too next site p hook go m) (next m)

  -- a rule that stays one
  one_told : (table : IptTable) (k : Kind) (at number : ℕ) (test : List Lit) (one : Act) (rest : List Rule) (m : Passage) (x y : List ℕ) → ArePlain test → numbers at ≡ number ∷ []
      → told spots (used_behind used enter (rules_used used enter c site p k (met n accepts table hook) (suc at) rest) (step_of p k one (shown accepts m))) ≡ x
      → tell table k (suc at) rest 0 (shown accepts m) ≡ y
      → tell table k at (ruled test one ∷ rest) 0 (shown accepts m) ≡ cond (holds test (view_at site (is_est k) hook m)) (number ∷ x) y
  one_told table k at number test one rest m x y plain is does on =
      let there = met n accepts table hook in
      let behind = told spots (used_behind used enter (rules_used used enter c site p k there (suc at) rest) (step_of p k one (shown accepts m))) in
      first_told used enter spots c site p k there at (ruled test one) rest (shown accepts m)
      ∙ branch (holds test (sees site k there (shown accepts m))) (holds test (view_at site (is_est k) hook m)) (seen_alike site p k table hook n accepts enter test m plain)
      (numbers at ++ behind) (tell table k (suc at) rest 0 (shown accepts m)) (number ∷ x) y (ap (λ l. l ++ behind) is ∙ ap (λ l. number ∷ l) does) on

  -- the rules behind one that stays one
  next_told : (table : IptTable) (k : Kind) (at : ℕ) (rest : List Rule) (next : Passage → List ℕ)
      → ((m : Passage) → Stands k p m → tell table k (at + 1) rest 0 (shown accepts m) ≡ next m)
      → (m : Passage) → Stands k p m → tell table k (suc at) rest 0 (shown accepts m) ≡ next m
  next_told table k at rest next on m stands =
      let same : suc at ≡ at + 1 = omega arith in
      ap (λ i. tell table k i rest 0 (shown accepts m)) same ∙ on m stands

  -- the rules that write

  abbrev there : Stage
  there = met n accepts Nat hook

  abbrev go_there : ℕ → List Rule → ℕ → Transit → List ℕ
  go_there at rules to t = tells used enter spots c site p New there at rules to t

  abbrev put : ℕ → List ℕ → List ℕ
  put at l = numbers at ++ l

  abbrev nothing : Transit → List ℕ
  nothing t = []

  gathered : IsGathered site p New there go_there put nothing
  gathered = told_gathered used enter spots c site p New there

  silent : (at to : ℕ) → ((i : ℕ) → suc at ≤ i → i < to → numbers i ≡ []) → (i : ℕ) → suc at ≤ i → i < to → (l : List ℕ) → put i l ≡ l
  silent at to none i low high l = ap (λ k. k ++ l) (none i low high)

  block_told : (test : List Lit) (m : Passage) (at number : ℕ) (x y a b : List ℕ) → ArePlain test → numbers at ≡ number ∷ []
      → a ≡ cond (holds test (sees site New there (shown accepts m))) (put at x) b → b ≡ y
      → a ≡ cond (holds test (view_at site false hook m)) (number ∷ x) y
  block_told test m at number x y a b plain here is on =
      is ∙ branch (holds test (sees site New there (shown accepts m))) (holds test (view_at site false hook m)) (seen_alike site p New Nat hook n accepts enter test m plain)
      (put at x) b (number ∷ x) y (ap (λ l. l ++ x) here) on

  source_told : (e : End) → Told (goes.Source e) Nat New
  source_told e place ent ent_told behind at number on_source test rest next plain here none on m stands =
      block_told test m at number (cond (writes_src_at hook) [] (next m)) (next m) _ (go_there (at + 4) rest 0 (shown accepts m)) plain here
      (source_each site sound entries p of_site hook own n accepts go_there put nothing gathered (λ l. l) (λ m. []) (λ m. refl)
      e at test rest m (next m) (silent at (at + 4) none) (on m stands)) (on m stands)

  masquerade_told : Told goes.Masquerade Nat New
  masquerade_told place ent ent_told behind at number on_source test rest next plain here none on m stands =
      let by_sent = used_back next (masqueraded site p (sending site m.packet) m) in
      block_told test m at number (cond (masquerades_at hook) by_sent (next m)) (next m) _ (go_there (at + (length site.faces + 4)) rest 0 (shown accepts m)) plain here
      (masquerade_each site sound entries p of_site hook own n accepts go_there put nothing gathered (λ l. l) (λ m. []) (λ m. refl)
      at test rest m (next m) by_sent stands (ap (λ o. used_back next (masqueraded site p o m))) (λ x. ap (λ o. used_back next (masqueraded site p o m)))
      (silent at (at + (length site.faces + 4)) none) (on m stands)) (on m stands)

  dest_told : (e : End) → Told (goes.Dest e) Nat New
  dest_told e place ent ent_told behind at number on_source test rest next plain here none on m stands =
      block_told test m at number (cond (writes_dst_at hook) [] (next m)) (next m) _ (go_there (at + 4) rest 0 (shown accepts m)) plain here
      (dest_each site sound entries p of_site hook own n accepts go_there put nothing gathered (λ l. l) (λ m. []) (λ m. refl)
      place e at test rest m (next m) (silent at (at + 4) none) (on m stands)) (on m stands)

  redirect_told : (port : Option ℕ) → Told (goes.Redirect port) Nat New
  redirect_told port place ent ent_told behind at number on_source test rest next plain here none on m stands =
      block_told test m at number (cond (writes_dst_at hook) [] (next m)) (next m) _ (go_there (at + (length site.faces + 5)) rest 0 (shown accepts m)) plain here
      (redirect_each site sound entries p of_site hook own n accepts go_there put nothing gathered (λ l. l) (λ m. []) (λ m. refl)
      place port at test rest m (next m) stands (silent at (at + (length site.faces + 5)) none) (on m stands)) (on m stands)

  netmap_told : (net : Prefix) → Told (goes.Netmap net) Nat New
  netmap_told net place ent ent_told behind at number on_source test rest next plain here none on m stands =
      let ended = cond (writes_dst_at hook) [] (cond (writes_src_at hook) [] (next m)) in
      block_told test m at number ended (next m) _ (go_there (at + 4) rest 0 (shown accepts m)) plain here
      (met_write site p New there go_there put nothing gathered true at test (mapping on_source net) rest (shown accepts m) (mapping_is_write on_source net) (silent at (at + 4) none)
      ∙ ap (λ l. cond (holds test (sees site New there (shown accepts m))) (put at l) (go_there (at + 4) rest 0 (shown accepts m))) (sym (netmap_ends hook place (next m)))) (on m stands)

  -- every rule
  pub rule_told : (chains : List IptChain) (table : IptTable) (k : Kind) (go : IptGo) → fits table chains go ≡ true → (is_table Nat table ≡ true → is_est k ≡ false)
      → Told go table k
  rule_told chains table k goes.Accept fit new = λ place ent ent_told behind at number on_source test rest next plain here none on m stands.
      one_told table k at number test acts.Accept rest m [] (next m) plain here refl (next_told table k at rest next on m stands)
  rule_told chains table k goes.Drop fit new = λ place ent ent_told behind at number on_source test rest next plain here none on m stands.
      one_told table k at number test acts.Drop rest m [] (next m) plain here refl (next_told table k at rest next on m stands)
  rule_told chains table k goes.Return fit new = λ place ent ent_told behind at number on_source test rest next plain here none on m stands.
      one_told table k at number test acts.Return rest m [] (next m) plain here refl (next_told table k at rest next on m stands)
  rule_told chains table k goes.Next fit new = λ place ent ent_told behind at number on_source test rest next plain here none on m stands.
      one_told table k at number test (acts.Skip (at + 1)) rest m (next m) (next m) plain here
      ((told_gathered used enter spots c site p k (met n accepts table hook)).here (suc at) rest (at + 1) (shown accepts m) (omega arith) ∙ next_told table k at rest next on m stands)
      (next_told table k at rest next on m stands)
  rule_told chains table k (goes.Jump d) fit new = λ place ent ent_told behind at number on_source test rest next plain here none on m stands.
      let go = rules_used used enter c site p k (met n accepts table hook) (suc at) rest in
      one_told table k at number test (acts.Call (d + 3)) rest m (used_too d m ++ used_back next (enter_too d m)) (next m) plain here
      (flat_map-append (numbers_at spots) (used (d + 3) (shown accepts m)) (used_back_there (go 0) (enter (d + 3) (shown accepts m)))
      ∙ ap (λ l. l ++ told spots (used_back_there (go 0) (enter (d + 3) (shown accepts m)))) (ent_told d refl m stands)
      ∙ ap (λ end. used_too d m ++ told spots (used_back_there (go 0) end)) (ent d refl m stands)
      ∙ ap (λ l. used_too d m ++ l) (back_told accepts k p spots (go 0) next (next_told table k at rest next on) (enter_too d m) (behind d m stands)))
      (next_told table k at rest next on m stands)
  rule_told chains table k (goes.Goto d) fit new = λ place ent ent_told behind at number on_source test rest next plain here none on m stands.
      one_told table k at number test (acts.Goto (d + 3)) rest m (used_too d m) (next m) plain here (ent_told d refl m stands) (next_told table k at rest next on m stands)
  rule_told chains table k (goes.Mark v) fit new = λ place ent ent_told behind at number on_source test rest next plain here none on m stands.
      one_told table k at number test (acts.OnlyTag v) rest m (next (with_mark v m)) (next m) plain here
      (next_told table k at rest next on (with_mark v m) (marked_stands k p v m stands)) (next_told table k at rest next on m stands)
  rule_told chains table k (goes.Source e) fit new = only_new table k fit new (Told (goes.Source e)) (source_told e)
  rule_told chains table k goes.Masquerade fit new = only_new table k fit new (Told goes.Masquerade) masquerade_told
  rule_told chains table k (goes.Dest e) fit new = only_new table k fit new (Told (goes.Dest e)) (dest_told e)
  rule_told chains table k (goes.Redirect port) fit new = only_new table k fit new (Told (goes.Redirect port)) (redirect_told port)
  rule_told chains table k (goes.Netmap net) fit new = only_new table k fit new (Told (goes.Netmap net)) (netmap_told net)

  -- all rules of a list
  pub rules_tell : (chains : List IptChain) (table : IptTable) (k : Kind) (on_source : Bool) → (is_table Nat table ≡ true → is_est k ≡ false) → is_place table hook ≡ true
      → ((d : ℕ) (m : Passage) → Stands k p m → StandsAt k p (enter_too d m))
      → (rules : List IptRule)
      → list_all (λ (rule : IptRule). fits table chains rule.go) rules ≡ true
      → list_all (λ (rule : IptRule). list_all (λ (lit : Lit). is_sideless lit.test) rule.cond) rules ≡ true
      → ((rule : IptRule) → Contains rules rule → (d : ℕ) → named_by rule.go ≡ Some d → (m : Passage) → Stands k p m → enter (d + 3) (shown accepts m) ≡ shown_end accepts (enter_too d m))
      → ((rule : IptRule) → Contains rules rule → (d : ℕ) → named_by rule.go ≡ Some d → (m : Passage) → Stands k p m → told spots (used (d + 3) (shown accepts m)) ≡ used_too d m)
      → (at number : ℕ) → AreNumbered numbers (length site.faces) at number rules → (m : Passage) → Stands k p m
      → tell table k at (unfolded_all Each site on_source at rules) 0 (shown accepts m) ≡ ipt_used used_too enter_too site p (is_est k) hook number rules m
  rules_tell chains table k on_source new place behind [] fit plain ent ent_told at number are m stands = refl
  rules_tell chains table k on_source new place behind (r ∷ rs) fit plain ent ent_told at number (here, none, are) m stands =
      let fits_both = and_parts (fits table chains r.go) (list_all (λ (rule : IptRule). fits table chains rule.go) rs) fit in
      let plain_both = and_parts (list_all (λ (lit : Lit). is_sideless lit.test) r.cond) (list_all (λ (rule : IptRule). list_all (λ (lit : Lit). is_sideless lit.test) rule.cond) rs) plain in
      let first : Contains (r ∷ rs) r = (0, omega arith, refl) in
      let next = at + width_of (length site.faces) r.go in
      rule_told chains table k r.go fits_both.0 new place (ent r first) (ent_told r first) behind at number on_source r.cond (unfolded_all Each site on_source next rs)
      (ipt_used used_too enter_too site p (is_est k) hook (suc number) rs) plain_both.0 here none
      (λ m stands. rules_tell chains table k on_source new place behind rs fits_both.1 plain_both.1
      (λ rule there. ent rule (Contains-append_right (r ∷ []) rs rule there)) (λ rule there. ent_told rule (Contains-append_right (r ∷ []) rs rule there))
      next (suc number) are m stands) m stands
