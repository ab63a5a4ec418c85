-- Blocks of translations that decide on packets.
use Rattle.std.specs.Prelude.{◌≡◌, ◌⊎◌, ℕ, Bool, true, false, not, Some, None, List, [], ◌∷◌, ◌++◌}
use Rattle.std.specs.List.{list_all}
use Rattle.fws_net.specs.declared.packet.Packet.{Packet}
use Rattle.fws_net.specs.declared.transit.Transit.{Transit}
use Rattle.fws_pf.specs.declared.config.PfNat.{PfNat}
use Rattle.fws_pf.specs.Walk.{chosen}
use Rattle.fws_pf_print.specs.Printable.{is_printed_translation}
use Rattle.fws_pf_put_nat.specs.declared.path.Path.{Path}
use Rattle.fws_pf_put_nat.specs.Paths.{nat_of, path_has}
use Rattle.fws_pf_put_nat.specs.Translations.{IsLed}
use Rattle.fws_pf_put_nat.specs.Scenes.{Scene, IsFine, GetsNoEnd, Meets}

-- the first translation that matches leads the packet
abbrev pub IsLedBy : Scene → List PfNat → List PfNat → Transit → Type 0
IsLedBy s block rest m =
    (nat : PfNat) × (chosen s.site s.outward (block ++ rest) m ≡ Some nat) × IsLed s.tree s.leaves s.nodes s.states s.outward m.packet nat

-- no translation of the block matches
abbrev pub IsPassed : Scene → List PfNat → List PfNat → Transit → Type 0
IsPassed s block rest m = chosen s.site s.outward (block ++ rest) m ≡ chosen s.site s.outward rest m

abbrev pub are_printed : Scene → List PfNat → Bool
are_printed s block = list_all (is_printed_translation s.site (not s.outward)) block

-- a packet that gets no end may pass where it needs no translation
abbrev pub MayPass : Scene → Bool → Packet → Type 0
MayPass s falls p = (falls ≡ true) × GetsNoEnd s p

-- the translations of packets that come to a node on a path
pub record AreNodeRules (s : Scene) (at : ℕ) (path : Path) (falls : Bool) (block : List PfNat) : Type 0 where
  pub printed : are_printed s block ≡ true
  pub passes : (m : Transit) (rest : List PfNat) → IsFine s m.packet → path_has path m.packet ≡ false → IsPassed s block rest m
  pub decides : (m : Transit) (rest : List PfNat) → IsFine s m.packet → path_has path m.packet ≡ true → Meets s at m.packet
      → IsLedBy s block rest m ⊎ (MayPass s falls m.packet × IsPassed s block rest m)

-- packets on a path that get no end have a translation where they may not pass
abbrev pub root_nats : Path → Bool → ℕ → List PfNat
root_nats path true tag = []
root_nats path false tag = nat_of path None tag ∷ []
