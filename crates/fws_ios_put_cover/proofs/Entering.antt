-- Entries of paths, one behind another.
use Rattle.std.proofs.Common.{◌≡◌, Bool, true, false, ◌&&◌, ◌||◌, not, List, [], ◌∷◌, ◌++◌, refl, sym, ◌∙◌, ap}
use Rattle.std.proofs.Math.Bool.{beq}
use Rattle.std.proofs.lemmas.Bool.{and_from}
use Rattle.std.proofs.lemmas.List.Folds.{list_all-append, list_any-append}
use Rattle.std.specs.List.{list_all}
use Rattle.fws_net.specs.Conditions.{holds}
use Rattle.fws_ios.specs.declared.config.IosEntry.{IosEntry}
use Rattle.fws_ios_print.specs.Printable.{is_printed_entry, is_state}
use Rattle.fws_ios_put_entries.specs.declared.act.Act.{Act}
use Rattle.fws_ios_put_entries.specs.declared.path.Path.{Path}
use Rattle.fws_ios_put_entries.specs.Entries.{acknowledges, IsEntryOf}
use Rattle.fws_ios_put_entries.specs.Paths.{path_has, some_path_has}
use Rattle.fws_ios_put_cover.specs.Covers.{does, AreEntriesOf}

pub no_entries : (act : Act) → AreEntriesOf act [] []
no_entries act = record { printed = refl; acts = refl; classless = refl; same = λ v. refl }

beq_same : (a b : Bool) → a ≡ b → beq a b ≡ true
beq_same true true e = refl
beq_same false false e = refl
beq_same true false e = sym e
beq_same false true e = e

pub entries_more : (act : Act) (paths : List Path) (path : Path) (block : List IosEntry) (e : IosEntry) → IsEntryOf act path e → AreEntriesOf act paths block → AreEntriesOf act (paths ++ path ∷ []) (block ++ e ∷ [])
entries_more act paths path block e is h = record {
  printed = all is_printed_entry h.printed is.printed;
  acts = all (does act) h.acts (and_from (beq e.permit act.permit) (beq e.reflect act.reflect) (beq_same e.permit act.permit is.permit) (beq_same e.reflect act.reflect is.reflect));
  classless = all (λ e. not (is_state e.cond)) h.classless (ap not is.classless);
  same = λ v.
      list_any-append (λ (e : IosEntry). holds e.cond v) block (e ∷ []) ∙ ap (λ b. b || (holds e.cond v || false)) (h.same v)
      ∙ ap (λ b. (some_path_has paths v.packet && (not act.established || acknowledges v.packet)) || (b || false)) (is.holds v)
      ∙ joined (some_path_has paths v.packet) (path_has path v.packet) (not act.established || acknowledges v.packet)
      ∙ ap (λ b. b && (not act.established || acknowledges v.packet)) (sym (list_any-append (λ (x : Path). path_has x v.packet) paths (path ∷ [])));
}
  where
    all : (test : IosEntry → Bool) → list_all test block ≡ true → test e ≡ true → list_all test (block ++ e ∷ []) ≡ true
    all test x y = list_all-append test block (e ∷ []) ∙ ap (λ b. b && list_all test (e ∷ [])) x ∙ ap (λ b. b && true) y

    joined : (a b c : Bool) → ((a && c) || ((b && c) || false)) ≡ ((a || (b || false)) && c)
    joined true b true = refl
    joined true true false = refl
    joined true false false = refl
    joined false true true = refl
    joined false true false = refl
    joined false false c = refl
