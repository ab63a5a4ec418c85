-- The lists, and the translations that ask them.
use Rattle.std.specs.Prelude.{◌≡◌, ℕ, suc, ◌≤◌, ◌<◌, ◌-◌, ◌^◌, true, nat_eq, nat_lt, None, Some, List, [], ◌∷◌, ◌++◌, All, length, map}
use Rattle.std.specs.List.{list_all}
use Rattle.fws_box.specs.Sides.{IsWithin}
use Rattle.fws_ios.specs.declared.config.IosConfig.{IosConfig}
use Rattle.fws_ios.specs.declared.config.IosEntry.{IosEntry}
use Rattle.fws_ios.specs.declared.config.IosList.{IosList}
use Rattle.fws_ios.specs.declared.config.IosNat.{IosNat}
use Rattle.fws_ios.specs.declared.config.IosNat.TheVariants.{List as Listed}
use Rattle.fws_ios.specs.Soundness.{are_apart}
use Rattle.fws_ios.specs.Walk.{list_named, permits, source_end}
use Rattle.fws_ios_put_entries.specs.Seen.{IsSeenAt}
use Rattle.fws_ios_print.specs.Printable.{has_entries, is_printed_entry, is_printed_list, is_printed_nat}
use Rattle.fws_ios_put_sources.specs.declared.translations.Sources.{Sources}
use Rattle.fws_ios_put_sources.specs.Picking.{place_of}
use Rattle.fws_ios_put_sources.specs.Sources.{mark, IsMarked}
use Rattle.fws_net.specs.declared.connection.Kind.TheVariants.{New}
use Rattle.fws_net.specs.declared.outcome.End.{End}
use Rattle.fws_net.specs.declared.outcome.Outcome.{Outcome}
use Rattle.fws_net.specs.declared.outcome.Outcome.TheVariants.{Accept}
use Rattle.fws_net.specs.declared.outcome.Rewrite.{Rewrite}
use Rattle.fws_net.specs.declared.site.Site.{Site}
use Rattle.fws_net.specs.declared.transit.Transit.{Transit}
use Rattle.fws_net.specs.Ends.{host_end}
use Rattle.fws_net.specs.Points.{tops_of}
use Rattle.fws_num.specs.Numbers.{dotted}
use Rattle.fws_tree.specs.Plain.{Plain, value}

-- the name of the list that gives an address
abbrev pub list_name : ℕ → List ℕ
list_name addr = mark ++ dotted addr

-- the translation that asks it
abbrev pub nat_of : ℕ → IosNat
nat_of addr = Listed (list_name addr) addr

-- the entries of the list at a place: of the packets whose sources are given there or behind they permit those that get theirs there
pub record AreEntries (site : Site) (t : Plain Outcome) (addrs : List ℕ) (place : ℕ) (entries : List IosEntry) : Type 0 where
  pub some : has_entries entries ≡ true
  pub printed : list_all is_printed_entry entries ≡ true
  pub tell : (m : Transit) (x : List ℕ) (w : Rewrite) → IsWithin (tops_of site) x → IsSeenAt m.packet x → value t x ≡ Some (Accept w)
      → place ≤ place_of addrs w → permits site New true entries m ≡ nat_eq place (place_of addrs w)

-- the list at a place, which gives an address
pub record IsListAt (site : Site) (t : Plain Outcome) (addrs : List ℕ) (place addr : ℕ) (l : IosList) : Type 0 where
  pub fits : addr < 2 ^ 32
  pub name : l.name ≡ list_name addr
  pub entries : AreEntries site t addrs place l.entries

-- the lists from a place on, which give these addresses
abbrev pub AreListsFrom : Site → Plain Outcome → List ℕ → ℕ → List ℕ → List IosList → Type 0
AreListsFrom site t addrs place [] [] = Unit {0}
AreListsFrom site t addrs place [] (l ∷ ls) = ⊥
AreListsFrom site t addrs place (a ∷ rest) [] = ⊥
AreListsFrom site t addrs place (a ∷ rest) (l ∷ ls) = IsListAt site t addrs place a l × AreListsFrom site t addrs (suc place) rest ls

-- the lists that give the addresses, and the translations that ask them
pub record AreAsked (site : Site) (t : Plain Outcome) (addrs given : List ℕ) (s : Sources) : Type 0 where
  pub lists : AreListsFrom site t addrs 0 given s.lists
  pub nats : s.nats ≡ map nat_of given

-- a source that is written is a whole address without a port
abbrev pub WritesHost : Rewrite → Type 0
WritesHost w = (e : End) → w.src ≡ Some e → e ≡ host_end e.addr None

-- in each configuration with these translations, whose marked names are those of these lists, packets get the sources of the tree
abbrev pub GiveSources : Site → Plain Outcome → Sources → Type 0
GiveSources site t s =
    (m : Transit) (x : List ℕ) (w : Rewrite) → IsWithin (tops_of site) x → IsSeenAt m.packet x → value t x ≡ Some (Accept w) → WritesHost w
    → (c : IosConfig) → c.nats ≡ s.nats → ((name : List ℕ) → IsMarked name → list_named name c.lists ≡ list_named name s.lists)
    → source_end c site New m ≡ w.src

-- lists and translations that are printed, have marked names that differ, and give the sources of the tree
pub record AreTranslations (site : Site) (t : Plain Outcome) (s : Sources) : Type 0 where
  pub printed_lists : list_all is_printed_list s.lists ≡ true
  pub printed_nats : list_all is_printed_nat s.nats ≡ true
  pub few : nat_lt (length s.nats) (2 ^ 64 - 1) ≡ true
  pub apart : are_apart s.lists ≡ true
  pub marked : All (λ l. IsMarked l.name) s.lists
  pub give : GiveSources site t s

-- the list at a place, which gives an address, and the translation that asks it stand behind the others
pub record PutsList (site : Site) (t : Plain Outcome) (addrs : List ℕ) (place addr : ℕ) (old new : Sources) : Type 0 where
  pub list : IosList
  pub is_list : IsListAt site t addrs place addr list
  pub lists : new.lists ≡ old.lists ++ list ∷ []
  pub nats : new.nats ≡ old.nats ++ nat_of addr ∷ []
