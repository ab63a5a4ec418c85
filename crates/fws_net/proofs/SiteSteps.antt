-- Each line of a site file keeps what holds of a draft.
use Rattle.std.proofs.Common.{◌≡◌, ◌&&◌, nat_le, Err, List, [], ◌∷◌, length, codes, IfOk, refl, ap, sym, subst, lit≤}
use Rattle.std.proofs.lemmas.List.Elements.{All-nil}
use Rattle.std.specs.List.{list_all}
use Rattle.fws_num.specs.declared.lines.Line.{Line}
use Rattle.fws_num.specs.declared.word.Word.{Word}
use Rattle.fws_num.specs.Numbers.{QuadsAreDotted}
use Rattle.fws_num.specs.Words.{is_sound}
use Rattle.fws_net.specs.declared.cause.SiteCause.TheVariants.{Syntax}
use Rattle.fws_net.specs.declared.draft.Draft.{Draft}
use Rattle.fws_net.specs.declared.draft.Form.{Form}
use Rattle.fws_net.specs.declared.draft.Form.TheVariants.{First, Second}
use Rattle.fws_net.specs.declared.draft.Stage.{Stage}
use Rattle.fws_net.specs.declared.draft.Stage.TheVariants.{Header, Interfaces, Addresses, Routes, Default, Forwarding, OnePass, Ended}
use Rattle.fws_net.specs.declared.site.Iface.{Iface}
use Rattle.fws_net.specs.declared.site.RouteLine.{RouteLine}
use Rattle.fws_net.specs.declared.site.Site.{Site}
use Rattle.fws_net.specs.Routes.{IsSoundRoute}
use Rattle.fws_net.specs.SiteWords.{is_word}
use Rattle.fws_net.specs.SiteLines.{form_of, header_step, interface_step, address_step, route_step, loopback_step, behind_interfaces, behind_addresses, stage_step, words_step, line_step}
use Rattle.fws_net.specs.SiteText.{fresh_draft}
use Rattle.fws_net.proofs.Results.{then_holds, either_holds}
use Rattle.fws_net.proofs.SiteInvariant.{IsGrowing, IsOneEach, IsFormed, IsOrderlyDraft}
use Rattle.fws_net.proofs.SiteFaces.{interface_kept}
use Rattle.fws_net.proofs.SiteAddresses.{address_kept, route_kept}
use Rattle.fws_net.proofs.SiteLastLines.{loopback_kept, default_kept, forwarding_kept, one_pass_kept}

-- Before the first line

pub grows_from_none : IsGrowing [] []
grows_from_none = record {
  named = record { few = lit≤ tt; spelled = refl; differ = refl; differ_in_systems = refl };
  addressed = record { sound = refl; few = lit≤ tt; differ = refl; networks_differ = refl; off_loopback = refl };
  routed = record { few = lit≤ tt; sound = All-nil (IsSoundRoute 0); cleared = refl };
}

one_each_of_none : IsOneEach [] []
one_each_of_none = record { few_faces = lit≤ tt; few_addresses = refl; one_address = refl; no_routes = refl; networks_apart = refl }

pub fresh_is_orderly : IsOrderlyDraft fresh_draft
fresh_is_orderly = record { growing = grows_from_none; formed = (tt, one_each_of_none); settled = refl }

formed_from_none : (form : Form) → IsFormed form Interfaces [] []
formed_from_none First = (tt, one_each_of_none)
formed_from_none Second = tt

-- A draft at a place of the text

abbrev draft : Stage → Form → Site → Draft
draft stage form site = record { stage = stage; form = form; site = site }

header_kept : (form : Form) (site : Site) (ws : List Word) → IsOrderlyDraft (draft Header form site) → IfOk (header_step ws (draft Header form site)) IsOrderlyDraft
header_kept form site ws h =
    then_holds IsOrderlyDraft (form_of ws) _ (λ chosen. record {
      growing = h.growing;
      formed = subst (λ (s : Site). IsFormed chosen Interfaces s.faces s.routes) (sym h.settled) (formed_from_none chosen);
      settled = ap (λ (s : Site). s.routes) h.settled;
    })

behind_interfaces_kept : QuadsAreDotted → (form : Form) (site : Site) (key : Word) (ws : List Word) → IsOrderlyDraft (draft Interfaces form site)
    → IfOk (behind_interfaces form key ws (draft Interfaces form site)) IsOrderlyDraft
behind_interfaces_kept q First site key ws h = loopback_kept key ws (draft Interfaces First site) h
behind_interfaces_kept q Second site key ws h =
    either_holds IsOrderlyDraft (is_word (codes "address") key && nat_le 1 (length site.faces)) (address_step ws (draft Interfaces Second site)) (Err Syntax)
    (λ e. address_kept q ws (draft Interfaces Second site) refl h.settled h) (λ e. tt)

behind_addresses_kept : QuadsAreDotted → (key : Word) (ws : List Word) (d : Draft) → d.form ≡ Second → IsOrderlyDraft d → IfOk (behind_addresses key ws d) IsOrderlyDraft
behind_addresses_kept q key ws d second h =
    either_holds IsOrderlyDraft (is_word (codes "route") key) (route_step ws d) (loopback_step key ws d)
    (λ e. route_kept q ws d second h) (λ e. loopback_kept key ws d h)

-- lines of addresses and routes are in the second form
after_addresses : (form : Form) (faces : List Iface) (routes : List RouteLine) → IsFormed form Addresses faces routes → form ≡ Second
after_addresses First faces routes h = absurd h.0
after_addresses Second faces routes h = refl

after_routes : (form : Form) (faces : List Iface) (routes : List RouteLine) → IsFormed form Routes faces routes → form ≡ Second
after_routes First faces routes h = absurd h.0
after_routes Second faces routes h = refl

stage_kept : QuadsAreDotted → (stage : Stage) (form : Form) (site : Site) (key : Word) (ws : List Word) → IsOrderlyDraft (draft stage form site)
    → IfOk (stage_step stage key ws (draft stage form site)) IsOrderlyDraft
stage_kept q Header form site key ws h = header_kept form site (key ∷ ws) h
stage_kept q Interfaces form site key ws h =
    either_holds IsOrderlyDraft (is_word (codes "interface") key) (interface_step ws (draft Interfaces form site)) (behind_interfaces form key ws (draft Interfaces form site))
    (λ e. interface_kept q ws (draft Interfaces form site) h.settled h) (λ e. behind_interfaces_kept q form site key ws h)
stage_kept q Addresses form site key ws h =
    let second = after_addresses form site.faces site.routes h.formed in
    either_holds IsOrderlyDraft (is_word (codes "address") key) (address_step ws (draft Addresses form site)) (behind_addresses key ws (draft Addresses form site))
    (λ e. address_kept q ws (draft Addresses form site) second h.settled h) (λ e. behind_addresses_kept q key ws (draft Addresses form site) second h)
stage_kept q Routes form site key ws h = behind_addresses_kept q key ws (draft Routes form site) (after_routes form site.faces site.routes h.formed) h
stage_kept q Default form site key ws h = default_kept key ws (draft Default form site) h.settled h
stage_kept q Forwarding form site key ws h = forwarding_kept key ws (draft Forwarding form site) h.settled h
stage_kept q OnePass form site key ws h = one_pass_kept key ws (draft OnePass form site) h.settled h
stage_kept q Ended form site key ws h = tt

words_kept : QuadsAreDotted → (ws : List Word) (d : Draft) → IsOrderlyDraft d → IfOk (words_step ws d) IsOrderlyDraft
words_kept q [] d h = tt
words_kept q (key ∷ ws) d h = stage_kept q d.stage d.form d.site key ws h

pub line_kept : QuadsAreDotted → (d : Draft) (line : Line) → IsOrderlyDraft d → IfOk (line_step d line) IsOrderlyDraft
line_kept q d line h = either_holds IsOrderlyDraft (list_all is_sound line.words) (words_step line.words d) (Err Syntax) (λ e. words_kept q line.words d h) (λ e. tt)
