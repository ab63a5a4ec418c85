-- The last lines of a site file keep what holds of a draft.
use Rattle.std.proofs.Common.{◌≡◌, true, false, ◌&&◌, Ok, Err, List, [], ◌∷◌, ◌++◌, map, codes, IfOk}
use Rattle.std.proofs.lemmas.Bool.{and_parts}
use Rattle.fws_num.specs.declared.word.Word.{Word}
use Rattle.fws_net.specs.declared.cause.SiteCause.TheVariants.{Syntax, Names as NameTaken}
use Rattle.fws_net.specs.declared.draft.Draft.{Draft}
use Rattle.fws_net.specs.declared.draft.Form.{Form}
use Rattle.fws_net.specs.declared.draft.Form.TheVariants.{First, Second}
use Rattle.fws_net.specs.declared.draft.Stage.{Stage}
use Rattle.fws_net.specs.declared.draft.Stage.TheVariants.{Default, Forwarding, OnePass, Ended}
use Rattle.fws_net.specs.declared.site.Iface.{Iface}
use Rattle.fws_net.specs.declared.site.Names.{Names}
use Rattle.fws_net.specs.declared.site.RouteLine.{RouteLine}
use Rattle.fws_net.specs.declared.site.Site.{Site}
use Rattle.fws_net.specs.SiteWords.{is_word, name_of, names_of}
use Rattle.fws_net.specs.SiteLaws.{all_pairs, are_names, are_other_names}
use Rattle.fws_net.specs.SiteLines.{names_taken, entry_of, are_addressed, loopback_admitted, loopback_behind, loopback_step, default_behind, default_step, choice_of, forwarding_step, one_pass_step}
use Rattle.fws_net.proofs.Results.{then_holds, then_known, either_holds}
use Rattle.fws_net.proofs.Inserted.{pushed, pairs_inserted}
use Rattle.fws_net.proofs.PairTests.{names_symmetric}
use Rattle.fws_net.proofs.SiteInvariant.{HasPlace, IsFormed, IsNamed, IsEntryOf, IsOrderlyDraft}
use Rattle.fws_net.proofs.SiteGrowth.{other_systems}
use Rattle.fws_net.proofs.SiteWordsHold.{IsName, AreNames, name_holds, names_hold}
use Rattle.fws_net.proofs.SiteAddresses.{entry_holds}

-- the forms ask nothing of the last lines
formed_on : (form : Form) (stage next : Stage) (faces : List Iface) (routes : List RouteLine) → HasPlace next → IsFormed form stage faces routes → IsFormed form next faces routes
formed_on First stage next faces routes place h = (place, h.1)
formed_on Second stage next faces routes place h = tt

-- Loopback

record IsLoopbackFor (faces : List Iface) (names : Names) : Type 0 where
  spelled : are_names names ≡ true
  other : names_taken faces names ≡ false

loopback_admitted_holds : (faces : List Iface) (names : Names) → are_names names ≡ true → IfOk (loopback_admitted faces names) (IsLoopbackFor faces)
loopback_admitted_holds faces names h =
    either_holds (IsLoopbackFor faces) (names_taken faces names) (Err NameTaken) (Ok names) (λ e. tt) (λ other. record { spelled = h; other = other })

named_by : (faces : List Iface) (lo : Names) → are_addressed faces ≡ true → IsLoopbackFor faces lo → all_pairs are_other_names (map (λ face. face.names) faces) ≡ true → IsNamed faces lo
named_by faces lo addressed new h = record {
  addressed = addressed;
  loopback_spelled = new.spelled;
  system_names_differ = pairs_inserted are_other_names names_symmetric lo (map (λ face. face.names) faces) (map (λ face. face.names) faces ++ lo ∷ [])
      (pushed lo (map (λ face. face.names) faces)) (other_systems lo faces new.other) h;
}

loopback_behind_kept : (a b c e : Word) (d : Draft) → are_addressed d.site.faces ≡ true → IsOrderlyDraft d → IfOk (loopback_behind a b c e d) IsOrderlyDraft
unfolding loopback_behind
loopback_behind_kept a b c e d addressed h =
    then_known AreNames IsOrderlyDraft (names_of a b c e) _ (names_hold a b c e) (λ spelled k.
    then_known (IsLoopbackFor d.site.faces) IsOrderlyDraft (loopback_admitted d.site.faces spelled) _ (loopback_admitted_holds d.site.faces spelled k) (λ names new.
    record {
      growing = h.growing;
      formed = formed_on d.form d.stage Default d.site.faces d.site.routes tt h.formed;
      settled = named_by d.site.faces names addressed new h.growing.named.differ_in_systems;
    }))

pub loopback_kept : (key : Word) (ws : List Word) (d : Draft) → IsOrderlyDraft d → IfOk (loopback_step key ws d) IsOrderlyDraft
loopback_kept key (a ∷ b ∷ c ∷ e ∷ []) d h =
    either_holds IsOrderlyDraft (is_word (codes "loopback") key && are_addressed d.site.faces) (loopback_behind a b c e d) (Err Syntax)
    (λ t. loopback_behind_kept a b c e d (and_parts (is_word (codes "loopback") key) (are_addressed d.site.faces) t).1 h) (λ t. tt)
loopback_kept key _ d h = tt

-- The default interface

default_behind_kept : (name : Word) (d : Draft) → IsNamed d.site.faces d.site.lo → IsOrderlyDraft d → IfOk (default_behind name d) IsOrderlyDraft
unfolding default_behind
default_behind_kept name d named h =
    then_known IsName IsOrderlyDraft (name_of name.text) _ (name_holds name.text) (λ text k.
    then_known (IsEntryOf d.site.faces) IsOrderlyDraft (entry_of d.site.faces text) _ (entry_holds d.site.faces text) (λ entry inside.
    record { growing = h.growing; formed = formed_on d.form d.stage Forwarding d.site.faces d.site.routes tt h.formed; settled = (named, inside) }))

pub default_kept : (key : Word) (ws : List Word) (d : Draft) → IsNamed d.site.faces d.site.lo → IsOrderlyDraft d → IfOk (default_step key ws d) IsOrderlyDraft
default_kept key (name ∷ []) d named h =
    either_holds IsOrderlyDraft (is_word (codes "default") key) (default_behind name d) (Err Syntax) (λ t. default_behind_kept name d named h) (λ t. tt)
default_kept key _ d named h = tt

-- The choices

abbrev IsComplete : Site → Type 0
IsComplete site = IsNamed site.faces site.lo × IsEntryOf site.faces site.fallback

pub forwarding_kept : (key : Word) (ws : List Word) (d : Draft) → IsComplete d.site → IsOrderlyDraft d → IfOk (forwarding_step key ws d) IsOrderlyDraft
forwarding_kept key ws d complete h =
    then_holds IsOrderlyDraft (choice_of (codes "forwarding") (codes "yes") (codes "no") key ws) _ (λ chosen.
    record { growing = h.growing; formed = formed_on d.form d.stage OnePass d.site.faces d.site.routes tt h.formed; settled = complete })

pub one_pass_kept : (key : Word) (ws : List Word) (d : Draft) → IsComplete d.site → IsOrderlyDraft d → IfOk (one_pass_step key ws d) IsOrderlyDraft
one_pass_kept key ws d complete h =
    then_holds IsOrderlyDraft (choice_of (codes "one_pass") (codes "1") (codes "0") key ws) _ (λ chosen.
    record { growing = h.growing; formed = formed_on d.form d.stage Ended d.site.faces d.site.routes tt h.formed; settled = complete })
