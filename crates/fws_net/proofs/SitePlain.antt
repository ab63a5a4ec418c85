-- A site that was read of the first form is plain.
use Rattle.std.proofs.Common.{◌≡◌, ℕ, ◌&&◌, nat_le, Result, Ok, Err, List, [], ◌∷◌, length, codes, IfOk}
use Rattle.std.specs.List.{list_all}
use Rattle.fws_num.specs.declared.comments.Comments.TheVariants.{HashLine}
use Rattle.fws_num.specs.declared.lines.Line.{Line}
use Rattle.fws_num.specs.declared.word.Word.{Word}
use Rattle.fws_num.specs.Lines.{read_of}
use Rattle.fws_num.specs.Numbers.{QuadsAreDotted}
use Rattle.fws_num.specs.Words.{is_sound}
use Rattle.fws_net.specs.declared.cause.SiteCause.{SiteCause}
use Rattle.fws_net.specs.declared.cause.SiteCause.TheVariants.{Syntax}
use Rattle.fws_net.specs.declared.draft.Draft.{Draft}
use Rattle.fws_net.specs.declared.draft.Form.{Form}
use Rattle.fws_net.specs.declared.draft.Form.TheVariants.{First, Second}
use Rattle.fws_net.specs.declared.draft.Stage.{Stage}
use Rattle.fws_net.specs.declared.draft.Stage.TheVariants.{Header, Interfaces, Addresses, Routes, Default, Forwarding, OnePass, Ended}
use Rattle.fws_net.specs.declared.site.Site.{Site}
use Rattle.fws_net.specs.Reading.{and_then, located, lines_read}
use Rattle.fws_net.specs.SiteWords.{is_word, name_of, names_of, address_of, net_of}
use Rattle.fws_net.specs.SiteLaws.{form_of_lines, IsFirstForm, IsPlain, FirstFormsArePlain}
use Rattle.fws_net.specs.SiteLines.{form_of, spelled_face, face_admitted, interface_step, address_admitted, address_behind, address_step, route_admitted, route_behind, route_step, are_addressed, loopback_admitted, loopback_behind, loopback_step, entry_of, default_behind, default_step, choice_of, behind_interfaces, behind_addresses, stage_step, words_step, line_step}
use Rattle.fws_net.specs.SiteText.{fresh_draft, ended_at, finished, site_of}
use Rattle.fws_net.proofs.Results.{then_holds, then_known, either_holds, at_value, located_holds, lines_hold, both_hold}
use Rattle.fws_net.proofs.SiteInvariant.{IsFormed, IsOneEach, IsOrderlyDraft}
use Rattle.fws_net.proofs.SiteSteps.{fresh_is_orderly, line_kept}

-- The form stays the one that the first line names

abbrev HasBegun : Stage → Type 0
HasBegun Header = ⊥
HasBegun _ = Unit {0}

record IsOfForm (form : Form) (d : Draft) : Type 0 where
  begun : HasBegun d.stage
  same : d.form ≡ form

interface_forms : (f : Form) (ws : List Word) (d : Draft) → d.form ≡ f → IfOk (interface_step ws d) (IsOfForm f)
unfolding interface_step
interface_forms f ws d e =
    then_holds (IsOfForm f) (spelled_face d.form ws) _ (λ spelled.
    then_holds (IsOfForm f) (face_admitted d.form d.site.faces spelled) _ (λ face. record { begun = tt; same = e }))

address_behind_forms : (f : Form) (name net : Word) (d : Draft) → d.form ≡ f → IfOk (address_behind name net d) (IsOfForm f)
unfolding address_behind
address_behind_forms f name net d e =
    then_holds (IsOfForm f) (name_of name.text) _ (λ text.
    then_holds (IsOfForm f) (address_of net.text) _ (λ own.
    then_holds (IsOfForm f) (address_admitted d.site.faces text own) _ (λ entry. record { begun = tt; same = e })))

address_forms : (f : Form) (ws : List Word) (d : Draft) → d.form ≡ f → IfOk (address_step ws d) (IsOfForm f)
address_forms f (name ∷ net ∷ []) d e = address_behind_forms f name net d e
address_forms f _ d e = tt

route_behind_forms : (f : Form) (word name : Word) (d : Draft) → d.form ≡ f → IfOk (route_behind word name d) (IsOfForm f)
unfolding route_behind
route_behind_forms f word name d e =
    then_holds (IsOfForm f) (net_of word.text) _ (λ net.
    then_holds (IsOfForm f) (name_of name.text) _ (λ text.
    then_holds (IsOfForm f) (route_admitted d.site net text) _ (λ entry. record { begun = tt; same = e })))

route_forms : (f : Form) (ws : List Word) (d : Draft) → d.form ≡ f → IfOk (route_step ws d) (IsOfForm f)
route_forms f (net ∷ name ∷ []) d e = route_behind_forms f net name d e
route_forms f _ d e = tt

loopback_behind_forms : (f : Form) (a b c k : Word) (d : Draft) → d.form ≡ f → IfOk (loopback_behind a b c k d) (IsOfForm f)
unfolding loopback_behind
loopback_behind_forms f a b c k d e =
    then_holds (IsOfForm f) (names_of a b c k) _ (λ spelled.
    then_holds (IsOfForm f) (loopback_admitted d.site.faces spelled) _ (λ names. record { begun = tt; same = e }))

loopback_forms : (f : Form) (key : Word) (ws : List Word) (d : Draft) → d.form ≡ f → IfOk (loopback_step key ws d) (IsOfForm f)
loopback_forms f key (a ∷ b ∷ c ∷ k ∷ []) d e =
    either_holds (IsOfForm f) (is_word (codes "loopback") key && are_addressed d.site.faces) (loopback_behind a b c k d) (Err Syntax)
    (λ t. loopback_behind_forms f a b c k d e) (λ t. tt)
loopback_forms f key _ d e = tt

default_behind_forms : (f : Form) (name : Word) (d : Draft) → d.form ≡ f → IfOk (default_behind name d) (IsOfForm f)
unfolding default_behind
default_behind_forms f name d e =
    then_holds (IsOfForm f) (name_of name.text) _ (λ text.
    then_holds (IsOfForm f) (entry_of d.site.faces text) _ (λ entry. record { begun = tt; same = e }))

default_forms : (f : Form) (key : Word) (ws : List Word) (d : Draft) → d.form ≡ f → IfOk (default_step key ws d) (IsOfForm f)
default_forms f key (name ∷ []) d e =
    either_holds (IsOfForm f) (is_word (codes "default") key) (default_behind name d) (Err Syntax) (λ t. default_behind_forms f name d e) (λ t. tt)
default_forms f key _ d e = tt

behind_interfaces_forms : (form f : Form) (key : Word) (ws : List Word) (d : Draft) → d.form ≡ f → IfOk (behind_interfaces form key ws d) (IsOfForm f)
behind_interfaces_forms First f key ws d e = loopback_forms f key ws d e
behind_interfaces_forms Second f key ws d e =
    either_holds (IsOfForm f) (is_word (codes "address") key && nat_le 1 (length d.site.faces)) (address_step ws d) (Err Syntax) (λ t. address_forms f ws d e) (λ t. tt)

behind_addresses_forms : (f : Form) (key : Word) (ws : List Word) (d : Draft) → d.form ≡ f → IfOk (behind_addresses key ws d) (IsOfForm f)
behind_addresses_forms f key ws d e =
    either_holds (IsOfForm f) (is_word (codes "route") key) (route_step ws d) (loopback_step key ws d) (λ t. route_forms f ws d e) (λ t. loopback_forms f key ws d e)

stage_forms : (f : Form) (stage : Stage) (key : Word) (ws : List Word) (d : Draft) → HasBegun stage → d.form ≡ f → IfOk (stage_step stage key ws d) (IsOfForm f)
stage_forms f Header key ws d begun e = absurd begun
stage_forms f Interfaces key ws d begun e =
    either_holds (IsOfForm f) (is_word (codes "interface") key) (interface_step ws d) (behind_interfaces d.form key ws d)
    (λ t. interface_forms f ws d e) (λ t. behind_interfaces_forms d.form f key ws d e)
stage_forms f Addresses key ws d begun e =
    either_holds (IsOfForm f) (is_word (codes "address") key) (address_step ws d) (behind_addresses key ws d)
    (λ t. address_forms f ws d e) (λ t. behind_addresses_forms f key ws d e)
stage_forms f Routes key ws d begun e = behind_addresses_forms f key ws d e
stage_forms f Default key ws d begun e = default_forms f key ws d e
stage_forms f Forwarding key ws d begun e =
    then_holds (IsOfForm f) (choice_of (codes "forwarding") (codes "yes") (codes "no") key ws) _ (λ chosen. record { begun = tt; same = e })
stage_forms f OnePass key ws d begun e =
    then_holds (IsOfForm f) (choice_of (codes "one_pass") (codes "1") (codes "0") key ws) _ (λ chosen. record { begun = tt; same = e })
stage_forms f Ended key ws d begun e = tt

words_forms : (f : Form) (ws : List Word) (d : Draft) → IsOfForm f d → IfOk (words_step ws d) (IsOfForm f)
words_forms f [] d h = tt
words_forms f (key ∷ ws) d h = stage_forms f d.stage key ws d h.begun h.same

line_forms : (f : Form) (d : Draft) (line : Line) → IsOfForm f d → IfOk (line_step d line) (IsOfForm f)
line_forms f d line h = either_holds (IsOfForm f) (list_all is_sound line.words) (words_step line.words d) (Err Syntax) (λ e. words_forms f line.words d h) (λ e. tt)

-- The first line

abbrev begun_draft : Form → Result Draft SiteCause
begun_draft form = Ok (record fresh_draft { stage = Interfaces; form = form })

header_forms : (f : Form) (o : Result Form SiteCause) → o ≡ Ok f → IfOk (and_then o begun_draft) (IsOfForm f)
header_forms f (Ok form) e = record { begun = tt; same = cc }
header_forms f (Err cause) e = tt

first_words : (f : Form) (ws : List Word) → form_of ws ≡ Ok f → IfOk (words_step ws fresh_draft) (IsOfForm f)
first_words f [] e = tt
first_words f (key ∷ ws) e = header_forms f (form_of (key ∷ ws)) e

first_line : (f : Form) (line : Line) → form_of line.words ≡ Ok f → IfOk (line_step fresh_draft line) (IsOfForm f)
first_line f line e = either_holds (IsOfForm f) (list_all is_sound line.words) (words_step line.words fresh_draft) (Err Syntax) (λ t. first_words f line.words e) (λ t. tt)

lines_form : (f : Form) (ls : List Line) → form_of_lines ls ≡ Ok f → IfOk (lines_read line_step fresh_draft ls) (IsOfForm f)
lines_form f [] e = absurd cc
lines_form f (line ∷ ls) e =
    then_known (IsOfForm f) (IsOfForm f) (located line.number (line_step fresh_draft line)) _
    (located_holds (IsOfForm f) line.number (line_step fresh_draft line) (first_line f line e))
    (λ d h. lines_hold (IsOfForm f) line_step (λ s l k. line_forms f s l k) d ls h)

-- The end

plain_of : (site : Site) → IsOneEach site.faces site.routes → IsPlain site
plain_of site h = record { few_faces = h.few_faces; one_address = h.one_address; no_routes = h.no_routes; networks_apart = h.networks_apart }

plain_draft : (form : Form) (stage : Stage) (site : Site) → form ≡ First → IsFormed form stage site.faces site.routes → IsPlain site
plain_draft First stage site e h = plain_of site h.1
plain_draft Second stage site e h = absurd cc

ended_plain : (stage : Stage) (site : Site) → IsPlain site → IfOk (ended_at stage site) IsPlain
ended_plain Header site h = tt
ended_plain Interfaces site h = tt
ended_plain Addresses site h = tt
ended_plain Routes site h = tt
ended_plain Default site h = tt
ended_plain Forwarding site h = tt
ended_plain OnePass site h = tt
ended_plain Ended site h = h

pub plain_holds : QuadsAreDotted → (text : List ℕ) → IsFirstForm text → IfOk (site_of text) IsPlain
plain_holds q text first =
    let ls = read_of HashLine text in
    let Both : Draft → Type 0 = λ d. IsOrderlyDraft d × IsOfForm First d in
    then_known Both IsPlain (lines_read line_step fresh_draft ls.lines) _
    (both_hold IsOrderlyDraft (IsOfForm First) (lines_read line_step fresh_draft ls.lines)
    (lines_hold IsOrderlyDraft line_step (λ d l h. line_kept q d l h) fresh_draft ls.lines fresh_is_orderly)
    (lines_form First ls.lines first))
    (λ d h. located_holds IsPlain ls.past (finished d) (ended_plain d.stage d.site (plain_draft d.form d.stage d.site h.1.same h.0.formed)))

pub first_plain : QuadsAreDotted → FirstFormsArePlain
first_plain q text site first e = at_value IsPlain (site_of text) site (plain_holds q text first) e
