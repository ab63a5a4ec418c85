-- What `translate` answers with: a text of the target that does the same, or the line that says which packets show why there is
-- none.
use Rattle.std.specs.Prelude.{◌≡◌, ℕ, Bool, true, Ok, List, [], ◌∷◌, ◌++◌, codes}
use Rattle.std.specs.Fmt.{decimal}
use Rattle.std.specs.List.{join_with_byte}
use Rattle.std.specs.Option.{option_map_or}
use Rattle.fws_dead.specs.ComparisonText.{pair_words}
use Rattle.fws_ios.specs.FileText.{spelled as ios_spelled}
use Rattle.fws_ios.specs.Walk.{walk as ios_walk}
use Rattle.fws_ios_put.specs.Placed.{tracks as ios_tracks}
use Rattle.fws_ipfw.specs.FileText.{spelled as ipfw_spelled}
use Rattle.fws_ipfw.specs.Walk.{walk as ipfw_walk}
use Rattle.fws_ipfw_put.specs.Placed.{tracks as ipfw_tracks}
use Rattle.fws_ipt.specs.FileText.{spelled as ipt_spelled}
use Rattle.fws_ipt.specs.Walk.{walk as ipt_walk}
use Rattle.fws_ipt_put.specs.Placed.{tracks as ipt_tracks}
use Rattle.fws_net.specs.declared.connection.Kind.TheVariants.{New, Est}
use Rattle.fws_net.specs.declared.connection.Rec.{Rec}
use Rattle.fws_net.specs.declared.packet.Lang.{Lang}
use Rattle.fws_net.specs.declared.packet.Lang.TheVariants as langs
use Rattle.fws_net.specs.declared.packet.Packet.{Packet}
use Rattle.fws_net.specs.declared.site.Site.{Site}
use Rattle.fws_net.specs.Connections.{fate_in}
use Rattle.fws_pf.specs.FileText.{spelled as pf_spelled}
use Rattle.fws_pf.specs.Walk.{walk as pf_walk}
use Rattle.fws_pf_put.specs.Placed.{tracks as pf_tracks}
use Rattle.fws_place.specs.declared.breach.Breach.{Breach}
use Rattle.fws_place.specs.declared.breach.Pair.{Pair}
use Rattle.fws_place.specs.Fits.{Fits, IsBreach, number_of}
use Rattle.fws_place.specs.Meaning.{IsPacketOf, IsPairOf, new_of, est_of}
use Rattle.fws_top.specs.declared.lang.TargetLang.{TargetLang}
use Rattle.fws_top.specs.declared.lang.TargetLang.TheVariants.{Iptables, Ipfw, Pf, Ios}
use Rattle.fws_top.specs.declared.status.Status.{Status}
use Rattle.fws_top.specs.declared.status.Status.TheVariants as status
use Rattle.fws_top.specs.Judged.{Spelling}
use Rattle.fws_top.specs.Walked.{AreTablesOf, Walk}
use Rattle.fws_tree.specs.declared.tables.Tables.{Tables}

-- Texts of the target

-- a walk gives every packet of the site, new or established, the fate that the tables give it
pub record GivesFates (site : Site) (tables : Tables) (walk : Walk) : Type 0 where
  pub new : (p : Packet) → IsPacketOf site p → fate_in (walk p New) p New ≡ fate_in (new_of tables p) p New
  pub established : (p : Packet) (r : Rec) → IsPairOf site p r → fate_in (walk p (Est r)) p (Est r) ≡ fate_in (est_of tables p r) p (Est r)

-- the text spells a configuration that keeps state where it accepts, and gives these fates
pub record EmitsBy {C : Type 0} (spelled : Spelling C) (tracks : C → Bool) (walk : C → Walk) (site : Site) (tables : Tables) (t : List ℕ) : Type 0 where
  pub config : C
  pub spells : spelled t ≡ Ok config
  pub tracked : tracks config ≡ true
  pub fates : GivesFates site tables (walk config)

-- the same in a language, by what it says of its texts and configurations
abbrev pub EmitsIn : {C : Type 0} → (Site → Spelling C) → (Site → C → Bool) → (C → Site → Walk) → Site → Tables → List ℕ → Type 0
EmitsIn spelled tracks walk site = EmitsBy (spelled site) (tracks site) (λ config. walk config site) site

-- in each target
abbrev pub Emits : TargetLang → Site → Tables → List ℕ → Type 0
Emits Iptables site tables t = EmitsBy (ipt_spelled site) (ipt_tracks site) (λ config. ipt_walk config site) site tables t
Emits Ipfw site tables t = EmitsBy (ipfw_spelled site) (ipfw_tracks site) (λ config. ipfw_walk config site) site tables t
Emits Pf site tables t = EmitsBy (pf_spelled site) (pf_tracks site) (λ config. pf_walk config site) site tables t
Emits Ios site tables t = EmitsBy (ios_spelled site) (ios_tracks site) (λ config. ios_walk config site) site tables t

-- the system whose placement condition is asked for
abbrev pub system_of : TargetLang → Lang
system_of Iptables = langs.Iptables
system_of Ipfw = langs.Ipfw
system_of Pf = langs.Pf
system_of Ios = langs.Ios

-- The line that names packets

abbrev pub target_word : TargetLang → List ℕ
target_word Iptables = codes "iptables"
target_word Ipfw = codes "ipfw"
target_word Pf = codes "pf"
target_word Ios = codes "ios"

-- the words of a packet, as a trace reads them, and the ends with which its connection sends it, if it has one
abbrev pub pair_text : Site → Pair → List ℕ
pair_text site pair = join_with_byte 32 (pair_words site pair.packet pair.rec)

-- the system can't hold the policy, by this clause, as these packets show
abbrev pub breach_line : TargetLang → Site → Breach → List ℕ
breach_line target site b =
    codes "not placeable on " ++ target_word target ++ codes " clause " ++ decimal (number_of b.clause) ++ codes ": "
    ++ pair_text site b.first ++ option_map_or (λ pair. codes " with " ++ pair_text site pair) b.second [] ++ 10 ∷ []

-- What is answered

-- with status 0 the tables fit the system, and the text is one with their fates; with status 1 a clause isn't met, and the line
-- names packets that show so
abbrev pub IsPlacementBy : Lang → (List ℕ → Type 0) → TargetLang → Site → Tables → Status → List ℕ → Type 0
IsPlacementBy system emits target site tables status.Ok t = Fits system site tables × emits t
IsPlacementBy system emits target site tables status.NotPlaceable t = (b : Breach) × IsBreach system site tables b × (t ≡ breach_line target site b)
IsPlacementBy system emits target site tables _ t = ⊥

-- in each target
abbrev pub IsPlacement : TargetLang → Site → Tables → Status → List ℕ → Type 0
IsPlacement target site tables s t = IsPlacementBy (system_of target) (Emits target site tables) target site tables s t

-- of the tables of a walk
abbrev pub IsTranslation : TargetLang → Site → Walk → Status → List ℕ → Type 0
IsTranslation target site walk s t = (tables : Tables) × AreTablesOf site walk tables × IsPlacement target site tables s t
