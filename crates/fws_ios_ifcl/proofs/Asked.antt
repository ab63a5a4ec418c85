-- The rules of translations each of which asks its list walk as these do.
use Rattle.std.proofs.Common.{◌≡◌, ℕ, ◌+◌, true, false, List, [], ◌∷◌, ◌++◌, length, arith, refl, ap, ◌∙◌, subst, length-append}
use Rattle.std.proofs.lemmas.Bool.{false≢true}
use Rattle.fws_net.specs.declared.connection.Kind.{Kind}
use Rattle.fws_net.specs.declared.connection.Kind.TheVariants.{New}
use Rattle.fws_net.specs.declared.packet.Packet.{Packet}
use Rattle.fws_net.specs.declared.site.Site.{Site}
use Rattle.fws_net.specs.declared.transit.Transit.{Transit}
use Rattle.fws_ifcl.specs.Walk.{means}
use Rattle.fws_ifcl_rules.specs.Places.{WalksGoByPlaces, run, Stands}
use Rattle.fws_ios.specs.declared.config.IosConfig.{IosConfig}
use Rattle.fws_ios.specs.declared.config.IosNat.{IosNat}
use Rattle.fws_ios.specs.declared.config.IosNat.TheVariants.{Static, List as Listed}
use Rattle.fws_ios.specs.Walk.{first_end, list_named, listed_end, walk}
use Rattle.fws_ios_ifcl.specs.Diagram.{source_front}
use Rattle.fws_ios_ifcl.specs.Placed.{asking_from, placed_of}
use Rattle.fws_ios_ifcl.proofs.Chosen.{asked_walk, listed_or_later, permitted, rules_of}
use Rattle.fws_ios_ifcl.proofs.Listed.{Course}
use Rattle.fws_ios_ifcl.proofs.Passing.{Choose, means_kept, translating}
use Rattle.fws_ios_ifcl.proofs.Translated.{leaves_with}

asking_walk : (chain : ℕ) (w : Course New true chain) (c : IosConfig) (t : Transit) (last at : ℕ) (nats : List IosNat) → Stands w at (asking_from at c.lists nats)
    → at + length (asking_from at c.lists nats) ≡ last
    → run w at t ≡ leaves_with w.p true t (first_end (listed_end c w.site New t) nats) (run w last t)
asking_walk chain w c t last at [] s long =
    let same : at ≡ last = omega (arith, long) in
    ap (λ n. run w n t) same
asking_walk chain w c t last at (Static proto local global ∷ nats) s long =
    let same : at ≡ at + 0 = omega arith in
    ap (λ n. run w n t) same
    ∙ asking_walk chain w c t last (at + 0) nats (subst (λ n. Stands w n (asking_from (at + 0) c.lists nats)) same s) (omega (arith, long))
asking_walk chain w c t last at (Listed name addr ∷ nats) s long =
    let found = list_named name c.lists in
    let here = rules_of chain w c t at false found addr in
    let next = at + length here in
    let more = asking_from next c.lists nats in
    let all : length (here ++ more) ≡ length here + length more = length-append here more in
    let halves = w.law.parts next here more s refl in
    asked_walk chain w c t at false found addr halves.0 (λ was. absurd (false≢true was))
    ∙ listed_or_later chain w c t (permitted chain w c t name) addr (first_end (listed_end c w.site New t) nats) (run w next t) (run w last t)
    (λ is. asking_walk chain w c t last next nats halves.1 (omega (arith, long, all)))

pub asks : (law : WalksGoByPlaces) (c : IosConfig) → Choose law c (asking_from (length (source_front c)) c.lists c.nats)
asks law c enter site p t s =
    let place = length (source_front c) in
    let lists = asking_from place c.lists c.nats in
    asking_walk 2 (translating law enter site p New c lists) c t (place + length lists) place c.nats s refl

-- what the diagram says of a packet is what becomes of it
pub placed_keeps_walks : (law : WalksGoByPlaces) (site : Site) (c : IosConfig) (p : Packet) (k : Kind) → means (placed_of c) site p k ≡ walk c site p k
placed_keeps_walks law site c p k = means_kept law c (asking_from (length (source_front c)) c.lists c.nats) (asks law c) site p k
