-- Every site that was read is orderly.
use Rattle.std.proofs.Common.{◌≡◌, ℕ, ◌^◌, ◌≤◌, true, ◌&&◌, nat_le, nat_lt, All, Result, Ok, Err, List, [], ◌∷◌, length, IfOk, refl, sym, subst, ◌∙◌, arith}
use Rattle.std.proofs.lemmas.Bool.{and_parts, leb-true, ltb-true}
use Rattle.std.proofs.lemmas.List.Elements.{All-nil, All-cons}
use Rattle.std.proofs.lemmas.List.Folds.{list_all-append}
use Rattle.std.specs.List.{list_all}
use Rattle.fws_num.specs.declared.comments.Comments.TheVariants.{HashLine}
use Rattle.fws_num.specs.Lines.{read_of}
use Rattle.fws_num.specs.Numbers.{QuadsAreDotted}
use Rattle.fws_net.specs.declared.draft.Draft.{Draft}
use Rattle.fws_net.specs.declared.draft.Stage.{Stage}
use Rattle.fws_net.specs.declared.draft.Stage.TheVariants.{Header, Interfaces, Addresses, Routes, Default, Forwarding, OnePass, Ended}
use Rattle.fws_net.specs.declared.site.Address.{Address}
use Rattle.fws_net.specs.declared.site.Iface.{Iface}
use Rattle.fws_net.specs.declared.site.Site.{Site}
use Rattle.fws_net.specs.declared.answer.TextAnswer.{TextAnswer}
use Rattle.fws_net.specs.declared.cause.SiteCause.{SiteCause}
use Rattle.fws_net.specs.Reading.{lines_read, ReadGiven}
use Rattle.fws_net.specs.Routes.{IsSound, IsSoundAddress, IsSoundFace}
use Rattle.fws_net.specs.SiteLaws.{addresses_of, IsOrderly, ReadSitesAreOrderly}
use Rattle.fws_net.specs.SiteLines.{has_addresses, line_step}
use Rattle.fws_net.specs.SiteText.{fresh_draft, ended_at, finished, site_of}
use Rattle.fws_net.proofs.Results.{then_known, at_value, located_holds, lines_hold}
use Rattle.fws_net.proofs.SiteInvariant.{is_sound_address, IsGrowing, IsNamed, IsEntryOf, IsSettled, IsOrderlyDraft}
use Rattle.fws_net.proofs.SiteLists.{address_count-all}
use Rattle.fws_net.proofs.SiteSteps.{fresh_is_orderly, line_kept}

pub sound_address : (own : Address) → is_sound_address own ≡ true → IsSoundAddress own
sound_address own h =
    let parts = and_parts (nat_le 1 own.len && nat_le own.len 32) (nat_lt own.addr (2 ^ 32)) h in
    let lens = and_parts (nat_le 1 own.len) (nat_le own.len 32) parts.0 in
    (leb-true 1 own.len lens.0, leb-true own.len 32 lens.1, ltb-true own.addr (2 ^ 32) parts.1)

sound_addresses : (owns : List Address) → list_all is_sound_address owns ≡ true → All IsSoundAddress owns
sound_addresses [] h = All-nil IsSoundAddress
sound_addresses (own ∷ owns) h =
    let parts = and_parts (is_sound_address own) (list_all is_sound_address owns) h in
    All-cons IsSoundAddress own owns (sound_address own parts.0) (sound_addresses owns parts.1)

sound_faces : (faces : List Iface) → list_all has_addresses faces ≡ true → list_all is_sound_address (addresses_of faces) ≡ true → All IsSoundFace faces
sound_faces [] h k = All-nil IsSoundFace
sound_faces (face ∷ faces) h k =
    let some = and_parts (has_addresses face) (list_all has_addresses faces) h in
    let sound = and_parts (list_all is_sound_address face.addrs) (list_all is_sound_address (addresses_of faces))
    (sym (list_all-append is_sound_address face.addrs (addresses_of faces)) ∙ k) in
    All-cons IsSoundFace face faces (leb-true 1 (length face.addrs) some.0, sound_addresses face.addrs sound.0) (sound_faces faces some.1 sound.1)

pub orderly_of : (site : Site) → IsGrowing site.faces site.routes → IsNamed site.faces site.lo → IsEntryOf site.faces site.fallback → IsOrderly site
orderly_of site h named inside =
    let some = and_parts (nat_le 1 (length site.faces)) (list_all has_addresses site.faces) named.addressed in
    let sound : IsSound site = record {
      some_faces = leb-true 1 (length site.faces) some.0;
      few_faces = h.named.few;
      faces_sound = sound_faces site.faces some.1 h.addressed.sound;
      routes_sound = h.routed.sound;
      fallback_low = inside.low;
      fallback_high = inside.high;
    } in
    record {
      sound = sound;
      few_addresses = (let e = address_count-all site.faces in let few : length (addresses_of site.faces) ≤ 1024 = h.addressed.few in omega arith);
      few_routes = h.routed.few;
      names_spelled = h.named.spelled;
      loopback_spelled = named.loopback_spelled;
      names_differ = h.named.differ;
      system_names_differ = named.system_names_differ;
      addresses_differ = h.addressed.differ;
      networks_differ = h.addressed.networks_differ;
      off_loopback = h.addressed.off_loopback;
      routes_cleared = h.routed.cleared;
    }

settled_at : (stage : Stage) (d : Draft) → d.stage ≡ stage → IsOrderlyDraft d → IsSettled stage d.site
settled_at stage d e h = subst (λ (s : Stage). IsSettled s d.site) e h.settled

finished_holds : (stage : Stage) (d : Draft) → d.stage ≡ stage → IsOrderlyDraft d → IfOk (ended_at stage d.site) IsOrderly
finished_holds Header d e h = tt
finished_holds Interfaces d e h = tt
finished_holds Addresses d e h = tt
finished_holds Routes d e h = tt
finished_holds Default d e h = tt
finished_holds Forwarding d e h = tt
finished_holds OnePass d e h = tt
finished_holds Ended d e h = (let settled = settled_at Ended d e h in orderly_of d.site h.growing settled.0 settled.1)

pub read_holds : QuadsAreDotted → (text : List ℕ) → IfOk (site_of text) IsOrderly
read_holds q text =
    let ls = read_of HashLine text in
    then_known IsOrderlyDraft IsOrderly (lines_read line_step fresh_draft ls.lines) _
    (lines_hold IsOrderlyDraft line_step (λ d l h. line_kept q d l h) fresh_draft ls.lines fresh_is_orderly)
    (λ d h. located_holds IsOrderly ls.past (finished d) (finished_holds d.stage d refl h))

pub read_orderly : QuadsAreDotted → ReadSitesAreOrderly
read_orderly q text site e = at_value IsOrderly (site_of text) site (read_holds q text) e

-- what a reader gave

pub given_orderly : ReadSitesAreOrderly → (text : List ℕ) (r : Result Site (TextAnswer SiteCause)) → ReadGiven r (site_of text) → IfOk r IsOrderly
given_orderly law text (Ok site) e = law text site e
given_orderly law text (Err answer) e = tt

pub given_sound : ReadSitesAreOrderly → (text : List ℕ) (r : Result Site (TextAnswer SiteCause)) → ReadGiven r (site_of text) → IfOk r IsSound
given_sound law text (Ok site) e = (law text site e).sound
given_sound law text (Err answer) e = tt
