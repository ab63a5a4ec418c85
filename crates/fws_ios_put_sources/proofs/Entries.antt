-- What the entries of a list say.
use Rattle.std.proofs.Common.{◌≡◌, ℕ, ◌<◌, ◌≤◌, Bool, true, false, nat_eq, Some, List, [], ◌∷◌, length, refl, sym, ◌∙◌, ap, subst, arith}
use Rattle.std.proofs.lemmas.Bool.{eq-eqb, false≢true, false_from_ne_true, lt-ltb}
use Rattle.fws_box.specs.Sides.{IsWithin}
use Rattle.fws_ios.specs.declared.config.IosEntry.{IosEntry}
use Rattle.fws_ios.specs.Walk.{permits}
use Rattle.fws_ios_put_lists.specs.FirstMatch.{IsFirstMatch}
use Rattle.fws_ios_put_entries.specs.Seen.{IsSeenAt}
use Rattle.fws_ios_print.specs.Printable.{has_entries}
use Rattle.fws_ios_put_sources.specs.declared.parted.Parted.{Parted}
use Rattle.fws_ios_put_sources.specs.Lists.{AreEntries}
use Rattle.fws_ios_put_sources.specs.Parting.{IsPartedAt}
use Rattle.fws_ios_put_sources.specs.Picking.{place_of}
use Rattle.fws_net.specs.declared.connection.Kind.TheVariants.{New}
use Rattle.fws_net.specs.declared.outcome.Outcome.{Outcome}
use Rattle.fws_net.specs.declared.outcome.Outcome.TheVariants.{Accept}
use Rattle.fws_net.specs.declared.outcome.Rewrite.{Rewrite}
use Rattle.fws_net.specs.declared.site.Site.{Site}
use Rattle.fws_net.specs.declared.transit.Transit.{Transit}
use Rattle.fws_net.specs.Points.{tops_of}
use Rattle.fws_tree.specs.Plain.{Plain, value}

some_entries : (entries : List IosEntry) → 0 < length entries → has_entries entries ≡ true
some_entries [] lt = absurd (omega arith)
some_entries (e ∷ entries) lt = refl

-- entries that permit what is permitted, and deny what is denied
pub entries_tell : (site : Site) (tops : List ℕ) (t : Plain Outcome) (addrs : List ℕ) (place : ℕ) (s : Parted) (entries : List IosEntry) → tops ≡ tops_of site
    → IsPartedAt tops t addrs place s → IsFirstMatch site s.permitted.1 false entries → AreEntries site t addrs place entries
entries_tell site tops t addrs place s entries topped at first = record {
  some = some_entries entries first.some;
  printed = first.printed;
  tell = λ m x w inside seen e le.
      let within : IsWithin tops x = subst (λ ts. IsWithin ts x) (sym topped) inside in
      let own : IsWithin s.permitted.0 x = subst (λ ts. IsWithin ts x) (sym at.tops_are) within in
      by m x w inside seen e le within own (nat_eq place (place_of addrs w)) refl;
}
  where
    by : (m : Transit) (x : List ℕ) (w : Rewrite) → IsWithin (tops_of site) x → IsSeenAt m.packet x → value t x ≡ Some (Accept w) → place ≤ place_of addrs w
        → IsWithin tops x → IsWithin s.permitted.0 x → (b : Bool) → nat_eq place (place_of addrs w) ≡ b → permits site New true entries m ≡ nat_eq place (place_of addrs w)
    by m x w inside seen e le within own true same = first.decides New true m x true inside seen (at.permits x w within e same) ∙ sym same
    by m x w inside seen e le within own false other =
        let apart : place ≡ place_of addrs w → ⊥ = λ is. false≢true (sym other ∙ eq-eqb place (place_of addrs w) is) in
        let lt : place < place_of addrs w = omega (arith, apart) in
        let told = at.parted.total x own in
        let off : told.0 ≡ false
        = false_from_ne_true told.0 (λ on. at.parted.apart x own (told.1 ∙ ap Some on) (at.denies x w within e (lt-ltb place (place_of addrs w) lt))) in
        first.decides New true m x false inside seen (told.1 ∙ ap Some off) ∙ sym other
