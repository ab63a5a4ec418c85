-- The sections of a placed configuration: where they stand, and what their rules do.
use Rattle.std.specs.Prelude.{ℕ, ◌+◌, Bool, true, false, ◌&&◌, nat_eq, Option, Some, None, option_map, List, [], ◌∷◌, position, length}
use Rattle.std.specs.Option.{option_map_or, option_eq}
use Rattle.fws_net.specs.declared.condition.Lit.{Lit}
use Rattle.fws_net.specs.declared.condition.Test.TheVariants as tests
use Rattle.fws_net.specs.declared.outcome.End.{End}
use Rattle.fws_net.specs.declared.outcome.Outcome.{Outcome}
use Rattle.fws_net.specs.declared.outcome.Outcome.TheVariants.{Drop, Accept}
use Rattle.fws_net.specs.declared.site.Site.{Site}
use Rattle.fws_ipfw.specs.declared.config.IpfwAct.{IpfwAct}
use Rattle.fws_ipfw.specs.declared.config.IpfwAct.TheVariants as acts
use Rattle.fws_ipfw.specs.declared.config.IpfwTag.TheVariants as tags
use Rattle.fws_ipfw.specs.declared.config.IpfwRule.{IpfwRule}
use Rattle.fws_ipfw_put_rules.specs.declared.choice.Choice.{Choice}
use Rattle.fws_ipfw_put_rules.specs.declared.choice.Choice.TheVariants as choices
use Rattle.fws_ipfw_put_rules.specs.declared.choice.Origin.TheVariants as origins
use Rattle.fws_ipfw_put_rules.specs.declared.choice.Section.{Section}
use Rattle.fws_tree_seen.specs.declared.seen.Seen.TheVariants as seens

-- Where sections stand

-- packets of connections as they arrive; as they are forwarded; and those of the host
abbrev pub known_arriving : Section
known_arriving = record { number = 1000; outward = false; origin = origins.Arriving; seen = seens.Entered }

abbrev pub known_forwarded : Section
known_forwarded = record { number = 3000; outward = true; origin = origins.Arriving; seen = seens.Routed }

abbrev pub known_sent : Section
known_sent = record { number = 4000; outward = true; origin = origins.Host; seen = seens.Routed }

-- the look-up of connections
abbrev pub lookup_number : ℕ
lookup_number = 5000

-- new packets that arrive, and those of the host
abbrev pub new_arriving : Section
new_arriving = record { number = 6000; outward = false; origin = origins.Arriving; seen = seens.Entered }

abbrev pub new_sent : Section
new_sent = record { number = 7000; outward = true; origin = origins.Host; seen = seens.Entered }

-- the rules of the destination at a place
abbrev pub destination_number : ℕ → ℕ
destination_number i = 10000 + i

-- the rules of sources
abbrev pub source_number : ℕ
source_number = 60000

-- Tags and instances

-- the tag of new packets that arrived
abbrev pub arrived_tag : ℕ
arrived_tag = 1

-- the tag of new packets that get the source at a place
abbrev pub source_tag : ℕ → ℕ
source_tag j = j + 2

-- the instance of the destination at a place, and that of the source at a place behind so many destinations
abbrev pub destination_instance : ℕ → ℕ
destination_instance i = i + 1

abbrev pub source_instance : ℕ → ℕ → ℕ
source_instance destinations j = destinations + j + 1

-- Choices

-- the ends have the same plain parts
abbrev pub same_end : End → End → Bool
same_end x y = nat_eq x.addr y.addr && (nat_eq x.len y.len && option_eq nat_eq x.port y.port)

-- the place of an end among others
abbrev pub place_of : List End → End → Option ℕ
place_of ends e = position (same_end e) ends

-- the tag for a source, if one is written
abbrev pub tag_of : List End → Option End → Option ℕ
tag_of sources end = option_map_or (λ e. option_map source_tag (place_of sources e)) end None

-- a packet is allowed, or goes on where its destination is written
abbrev pub destined : List End → Option End → Option ℕ → Choice
destined destinations None tag = choices.Allow tag
destined destinations (Some e) tag =
    option_map_or (λ i. choices.Skip (destination_number i) tag) (place_of destinations e) choices.Deny

-- what is chosen for a new packet that arrives
abbrev pub arriving_choice : List End → List End → Outcome → Choice
arriving_choice destinations sources Drop = choices.Deny
arriving_choice destinations sources (Accept w) = destined destinations w.dst (tag_of sources w.src)

-- a packet of the host is allowed, or goes on where its source is written
abbrev pub sent_by : Option ℕ → Choice
sent_by None = choices.Allow None
sent_by (Some tag) = choices.Skip source_number (Some tag)

-- what is chosen for a new packet of the host
abbrev pub sent_choice : List End → Outcome → Choice
sent_choice sources Drop = choices.Deny
sent_choice sources (Accept w) = sent_by (tag_of sources w.src)

-- what is chosen ahead of the look-up
abbrev pub passing : Bool → Choice
passing true = choices.Skip lookup_number None
passing false = choices.Deny

-- Rules

-- a rule that leaves tags and state as they are
abbrev pub plain_rule : ℕ → List Lit → IpfwAct → IpfwRule
plain_rule number cond act = record { number = number; cond = cond; act = act; tag = tags.Nothing; keep = false }

abbrev pub inward : Lit
inward = record { not = true; test = tests.Outward }

abbrev pub outwards : Lit
outwards = record { not = false; test = tests.Outward }

abbrev pub tagged_with : ℕ → Lit
tagged_with tag = record { not = false; test = tests.Tag tag }

-- no interface received the packet
abbrev pub unreceived : Site → Lit
unreceived site = record { not = true; test = tests.Recv (record { lo = 1; hi = length site.faces + 1 } ∷ []) }

-- an allowing rule keeps state
abbrev pub allowing : ℕ → List Lit → IpfwRule
allowing number cond = record { number = number; cond = cond; act = acts.Allow; tag = tags.Nothing; keep = true }

-- between the lists of known packets: new packets that arrived go on to the look-up as they leave, and packets of the host
-- past the list of those that are forwarded
abbrev pub leaving_rules : Site → List IpfwRule
leaving_rules site =
    plain_rule 2000 (outwards ∷ tagged_with arrived_tag ∷ []) (acts.Skip lookup_number)
    ∷ plain_rule 2100 (outwards ∷ unreceived site ∷ []) (acts.Skip 4000) ∷ []

-- the look-up of connections; then new packets that arrive get their tag, and those that arrived go on where they leave
abbrev pub lookup_rules : List IpfwRule
lookup_rules =
    plain_rule lookup_number [] acts.Check
    ∷ record { number = 5100; cond = inward ∷ []; act = acts.Count; tag = tags.Add arrived_tag; keep = false }
    ∷ plain_rule 5200 (outwards ∷ tagged_with arrived_tag ∷ []) (acts.Skip source_number) ∷ []

-- the destinations from the one at a place on are written by their instances
abbrev pub destination_rules : ℕ → List End → List IpfwRule
destination_rules i [] = []
destination_rules i (e ∷ ends) =
    plain_rule (destination_number i) (inward ∷ []) (acts.Nat (destination_instance i))
    ∷ allowing (destination_number i) (inward ∷ []) ∷ destination_rules (i + 1) ends

-- the sources from the one at a place on are written by their instances, for packets with their tags
abbrev pub source_rules : ℕ → ℕ → List End → List IpfwRule
source_rules destinations j [] = allowing source_number (outwards ∷ []) ∷ []
source_rules destinations j (e ∷ ends) =
    plain_rule source_number (outwards ∷ tagged_with (source_tag j) ∷ []) (acts.Nat (source_instance destinations j))
    ∷ source_rules destinations (j + 1) ends

-- the rules for the destination at a place, and the one for the source at a place behind so many destinations
abbrev pub destination_pair : ℕ → List IpfwRule
destination_pair place = plain_rule (10000 + place) (inward ∷ []) (acts.Nat (place + 1)) ∷ allowing (10000 + place) (inward ∷ []) ∷ []

abbrev pub source_rule : ℕ → ℕ → IpfwRule
source_rule destinations place = plain_rule 60000 (outwards ∷ tagged_with (place + 2) ∷ []) (acts.Nat (destinations + place + 1))
