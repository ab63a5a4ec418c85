-- A configuration that is put together does what the tables say.
use Rattle.std.proofs.Common.{◌≡◌, ℕ, zero, suc, ◌+◌, ◌<◌, ◌≤◌, Bool, true, false, ◌&&◌, ◌||◌, not, Option, Some, List, [], ◌∷◌, length, map, refl, sym, ap, ◌∙◌, arith, subst}
use Rattle.std.proofs.lemmas.Bool.{and_from}
use Rattle.std.specs.List.{list_all, range_with_len}
use Rattle.std.specs.Option.{option_map_or}
use Rattle.std.specs.Prelude.{◌^◌, ◌-◌, nat_lt, unwrap_or}
use Rattle.fws_net.specs.declared.site.Site.{Site}
use Rattle.fws_net.specs.declared.packet.Lang.TheVariants.{Ios}
use Rattle.fws_rules.specs.Names.{AreNamed}
use Rattle.fws_ios.specs.declared.config.IosConfig.{IosConfig}
use Rattle.fws_ios.specs.declared.config.IosList.{IosList}
use Rattle.fws_ios.specs.declared.config.IosNat.{IosNat}
use Rattle.fws_ios.specs.Soundness.{are_apart}
use Rattle.fws_ios.specs.Walk.{group_at, list_named}
use Rattle.fws_ios_print.specs.Printable.{are_sides, face_count, groups_ascend, is_printable, is_printed_group, is_printed_list, is_printed_nat}
use Rattle.fws_tree.specs.declared.tables.Tables.{Tables}
use Rattle.fws_tree.specs.Plain.{Plain, branch, value_from}
use Rattle.fws_ios_put.specs.declared.choices.Choices.{Choices}
use Rattle.fws_ios_put.specs.Choices.{AreMadeOf, TellsKnown, TellsNew, framed, is_stray, is_tcp, truth}
use Rattle.fws_ios_put.specs.Draft.{IsDraft}
use Rattle.fws_ios_put.specs.InLists.{IsGuarded, IsLaidOut}
use Rattle.fws_ios_put.specs.Layout.{AreAlike, AreLeaders, IsFound, group_of, groups_of, leader}
use Rattle.fws_ios_put.specs.Placed.{IsPlaced, is_guarded, is_keeping, keeps_state}
use Rattle.fws_ios_put.proofs.Chosen.{chosen_of, packet_of_pair}
use Rattle.fws_ios_put.proofs.Deciding.{in_list_of}
use Rattle.fws_ios_put.proofs.Groups.{all_guarded, at_entry, ascending, groups_printed, none_out}
use Rattle.fws_ios_put.proofs.Known.{Known}
use Rattle.fws_ios_put.proofs.ListsApart.{all_apart, marked_found, own_found}
use Rattle.fws_ios_put.proofs.Parts.{all_both}
use Rattle.fws_ios_put.proofs.Sides.{good_sides}
use Rattle.fws_ios_put.proofs.Ways.{est_placed, new_placed}

-- Entries that are alike

-- a tree that has the same of two entries has the same truth at framed points
same_truth : (t : Plain Bool) (a b flags : ℕ) (x : List ℕ) → branch 0 t a ≡ branch 0 t b → truth t (framed a flags x) ≡ truth t (framed b flags x)
same_truth t a b flags x same = ap (λ (u : Plain Bool). unwrap_or (value_from 1 u (rest flags x)) false) same where
  rest : ℕ → List ℕ → List ℕ
  rest f y = tail (framed 0 f y) where
    tail : List ℕ → List ℕ
    tail [] = []
    tail (n ∷ ns) = ns

-- choices of an entry are those of one that is alike
made_alike : (site : Site) (new known : Plain Bool) (a b : ℕ) (c : Choices) → AreAlike new known a b → AreMadeOf site new known a c → AreMadeOf site new known b c
made_alike site new known a b c alike made = record {
  fresh = λ x w. made.fresh x w ∙ same_truth new a b 0 x alike.0;
  known = λ x w. made.known x w ∙ same_truth known a b 0 x alike.1;
  acked_known = λ x w. made.acked_known x w ∙ same_truth known a b 16 x alike.1;
  acked_fresh = λ x w. made.acked_fresh x w
      ∙ ap (λ (v : Bool). v || (is_tcp x && (is_stray site x && (truth c.acked_known.1 x && not (truth c.known.1 x))))) (same_truth new a b 16 x alike.0);
}

module _ (site : Site) (tables : Tables) (known : Known site tables) (are_named : AreNamed Ios site) (n k : List ℕ × Plain Bool) (tells_n : TellsNew site tables n) (tells_k : TellsKnown site tables k)
    (leaders : List ℕ) (led : AreLeaders n.1 k.1 (length site.faces + 1) leaders) (c : IosConfig) (draft : IsDraft site tables n.1 k.1 leaders c) where
  most : length leaders ≡ length site.faces + 1
  most = led.size

  groups_are : c.groups ≡ groups_of site leaders (length site.faces + 1)
  groups_are = draft.groups ∙ ap (groups_of site leaders) led.size

  -- the list of the leader of an entry
  found : (entry : ℕ) → 1 ≤ entry → entry ≤ length site.faces + 1 → IsFound site n.1 k.1 leaders c.lists (leader leaders entry)
  found entry low high =
      let had = led.each entry low high in
      let below : leader leaders entry < length leaders + 1 = (let h = had.high in let size = led.size in omega arith) in
      subst (λ (ls : List IosList). IsFound site n.1 k.1 leaders ls (leader leaders entry)) (sym draft.lists)
      (own_found site are_named n.1 k.1 leaders draft.own draft.translations.lists (leader leaders entry) (draft.are_lists.found (leader leaders entry) had.low below had.itself))

  applied : (entry : ℕ) → 1 ≤ entry → entry ≤ length site.faces + 1 → group_at false (Some entry) c.groups ≡ Some (group_of site leaders entry)
  applied entry low high = ap (group_at false (Some entry)) groups_are ∙ at_entry site leaders 1 (length site.faces + 1) entry low (omega arith)

  guarded : (entry : ℕ) → 1 ≤ entry → entry ≤ length site.faces + 1 → IsGuarded site tables c entry
  guarded entry low high =
      let had = led.each entry low high in
      let f = found entry low high in
      let choices = f.decides.choices in
      let made = made_alike site n.1 k.1 (leader leaders entry) entry choices had.alike f.decides.made in
      record {
        group = group_of site leaders entry;
        l = f.l;
        applied = applied entry low high;
        defined = f.found;
        decides = in_list_of site tables entry choices f.l.entries known low (chosen_of site tables known n k tells_n tells_k entry choices low made) f.decides.decides;
      }

  laid : IsLaidOut site tables c
  laid = record {
    inward = guarded;
    outward = λ face. ap (group_at true face) groups_are ∙ none_out site leaders 1 (length site.faces + 1) face;
    inside = draft.inside;
    outside = draft.outside;
    nats = ap (list_all is_printed_nat) draft.nats ∙ draft.are_sources.printed_nats;
    sources = λ p w of_site accepted crosses m is.
        draft.are_sources.translated p w of_site accepted crosses c draft.nats
        (λ name marked. ap (list_named name) draft.lists ∙ marked_found site are_named n.1 k.1 leaders (length leaders + 1) draft.own draft.translations.lists draft.are_lists.named name marked) m is;
  }

  -- Printing

  low_leaders : (e : ℕ) → 1 ≤ e → e ≤ length site.faces + 1 → (1 ≤ leader leaders e) × (leader leaders e ≤ e)
  low_leaders e low high = let had = led.each e low high in (had.low, had.high)

  printable : is_printable site c ≡ true
  printable =
      let lists = ap (list_all is_printed_list) draft.lists ∙ all_both is_printed_list draft.own draft.translations.lists draft.are_lists.printed draft.are_sources.printed_lists in
      let apart = ap are_apart draft.lists
      ∙ all_apart site are_named n.1 k.1 leaders (length leaders + 1) draft.own draft.translations.lists draft.are_lists.named draft.are_sources.marked draft.are_lists.apart draft.are_sources.apart in
      let order = ap (groups_ascend 2) groups_are ∙ ascending site leaders 1 (length site.faces + 1) 2 (omega arith) in
      let groups = ap (list_all (is_printed_group site)) groups_are ∙ groups_printed site leaders are_named 1 (length site.faces + 1) (omega arith) (omega arith) low_leaders in
      let sides = good_sides site c.inside c.outside draft.inside draft.outside draft.inside_regular draft.outside_regular in
      let few = ap (λ (nats : List IosNat). nat_lt (length nats) (2 ^ 64 - 1)) draft.nats ∙ draft.are_sources.few in
      all_six (list_all is_printed_list c.lists) (are_apart c.lists) (groups_ascend 2 c.groups) (list_all (is_printed_group site) c.groups) (are_sides site c.inside c.outside)
      (list_all is_printed_nat c.nats) (nat_lt (length c.nats) (2 ^ 64 - 1)) lists apart order groups sides laid.nats few where
        all_six : (a b d e f g h : Bool) → a ≡ true → b ≡ true → d ≡ true → e ≡ true → f ≡ true → g ≡ true → h ≡ true → (a && b && d && e && f && g && h) ≡ true
        all_six a b d e f g h is_a is_b is_d is_e is_f is_g is_h =
            and_from (a && b && d && e && f && g) h (and_from (a && b && d && e && f) g (and_from (a && b && d && e) f (and_from (a && b && d) e (and_from (a && b) d (and_from a b is_a is_b) is_d) is_e) is_f) is_g) is_h

  -- Keeping state

  keeping : (a m : ℕ) → 1 ≤ a → a + m ≤ length site.faces + 2 → list_all (is_keeping c.lists) (map (group_of site leaders) (range_with_len a m)) ≡ true
  keeping a zero low high = refl
  keeping a (suc m) low high =
      let f = found a low (omega arith) in
      and_from (is_keeping c.lists (group_of site leaders a)) (list_all (is_keeping c.lists) (map (group_of site leaders) (range_with_len (a + 1) m)))
      (ap (λ (o : Option IosList). option_map_or (λ (l : IosList). list_all keeps_state l.entries) o false) f.found ∙ f.decides.decides.formed.keeps)
      (keeping (a + 1) m (omega arith) (omega arith))

  pub placed : IsPlaced site tables c
  placed = record {
    printable = printable;
    tracks = and_from (list_all (is_guarded c.groups) (range_with_len 1 (face_count site))) (list_all (is_keeping c.lists) c.groups)
        (all_guarded site leaders c.groups 1 (length site.faces + 1) (λ e low high. (group_of site leaders e, applied e low (omega arith))))
        (ap (list_all (is_keeping c.lists)) groups_are ∙ keeping 1 (length site.faces + 1) (omega arith) (omega arith));
    new = λ p of_site. new_placed site tables known c laid p of_site;
    established = λ p r of_site. est_placed site tables known c laid p r (packet_of_pair site p r of_site) of_site;
  }
