-- Packets on their way through rules: what rules see of them, what rules do to them, and what becomes of them.
use Rattle.std.specs.Prelude.{ℕ, Bool, true, not, nat_eq, Option, Some, None, option_and_then, List, [], ◌∷◌, ◌++◌, if◌then◌else◌}
use Rattle.std.specs.List.{list_any, filter}
use Rattle.std.specs.Option.{option_map_or}
use Rattle.fws_net.specs.declared.packet.Packet.{Packet}
use Rattle.fws_net.specs.declared.outcome.End.{End}
use Rattle.fws_net.specs.declared.outcome.Rewrite.{Rewrite}
use Rattle.fws_net.specs.declared.outcome.Outcome.{Outcome}
use Rattle.fws_net.specs.declared.outcome.Outcome.TheVariants.{Drop, Accept}
use Rattle.fws_net.specs.declared.connection.Rec.{Rec}
use Rattle.fws_net.specs.declared.connection.Kind.{Kind}
use Rattle.fws_net.specs.declared.connection.Kind.TheVariants.{New, Est}
use Rattle.fws_net.specs.declared.exit.Exit.{Exit}
use Rattle.fws_net.specs.declared.exit.Exit.TheVariants.{Deliver, Out, Lost}
use Rattle.fws_net.specs.declared.site.Site.{Site}
use Rattle.fws_net.specs.declared.transit.Transit.{Transit}
use Rattle.fws_net.specs.declared.view.View.{View}
use Rattle.fws_net.specs.Connections.{est_port}
use Rattle.fws_net.specs.Fates.{written_addr, sent_port}
use Rattle.fws_net.specs.Routes.{exit_at}
use Rattle.fws_net.specs.Showing.{receiving, sending}

-- Packets with other ends

-- the packet that entered, with the ends over its fields
abbrev pub rewritten : Packet → Rewrite → Packet
rewritten p w = record p {
  dst = written_addr w.dst p.dst;
  dport = sent_port p.proto w.dst p.dport;
  src = written_addr w.src p.src;
  sport = sent_port p.proto w.src p.sport;
}

-- the destination of an established packet as it leaves
abbrev pub with_rec_dst : Rec → Packet → Packet
with_rec_dst r p = record p { dst = r.rdst; dport = est_port p.proto r.rdport p.dport }

-- the source of an established packet as it leaves
abbrev pub with_rec_src : Rec → Packet → Packet
with_rec_src r p = record p { src = r.rsrc; sport = est_port p.proto r.rsport p.sport }

-- a new packet keeps its destination, an established one has that with which it leaves
abbrev pub tracked_dst : Kind → Packet → Packet
tracked_dst New p = p
tracked_dst (Est r) p = with_rec_dst r p

-- a new packet keeps its source, an established one has that with which it leaves
abbrev pub tracked_src : Kind → Packet → Packet
tracked_src New p = p
tracked_src (Est r) p = with_rec_src r p

-- Where a transit begins, and what is seen of it

abbrev pub nothing_written : Rewrite
nothing_written = record { src = None; dst = None }

-- a packet enters without tags, accepted so far, and with nothing written
abbrev pub entered : Packet → Transit
entered p = record { packet = p; tags = []; verdict = true; wrote = nothing_written }

-- what a rule sees: the fields as they stand, and the receiving and the sending interface where they are shown
abbrev pub seen : Site → Bool → Bool → Bool → Bool → Transit → View
seen site shows_recv shows_xmit is_outward est t = record {
  packet = t.packet;
  recv = if shows_recv then receiving t.packet else None;
  xmit = if shows_xmit then sending site t.packet else None;
  outward = is_outward;
  est = est;
  tags = t.tags;
}

-- What rules do

-- the verdict so far is held
abbrev pub with_verdict : Bool → Transit → Transit
with_verdict accepts t = record t { verdict = accepts }

-- ends stand over the fields with which the packet p entered
abbrev pub with_wrote : Packet → Rewrite → Transit → Transit
with_wrote p w t = record t { packet = rewritten p w; wrote = w }

-- an end is written over the source: what was written over the destination stays, and ends of a connection that were put in place
-- are gone
abbrev pub with_src : Packet → End → Transit → Transit
with_src p e t = with_wrote p (record t.wrote { src = Some e }) t

-- an end is written over the destination: what was written over the source stays, and ends of a connection that were put in place
-- are gone
abbrev pub with_dst : Packet → End → Transit → Transit
with_dst p e t = with_wrote p (record t.wrote { dst = Some e }) t

-- an established packet gets the source with which it leaves
abbrev pub with_tracked_src : Kind → Transit → Transit
with_tracked_src k t = record t { packet = tracked_src k t.packet }

-- an established packet gets the destination with which it leaves
abbrev pub with_tracked_dst : Kind → Transit → Transit
with_tracked_dst k t = record t { packet = tracked_dst k t.packet }

abbrev pub has_tag : ℕ → Transit → Bool
has_tag n t = list_any (nat_eq n) t.tags

-- a tag is added; one that is there isn't added again
abbrev pub with_tag : ℕ → Transit → Transit
with_tag n t = if has_tag n t then t else record t { tags = t.tags ++ n ∷ [] }

-- a tag becomes the only one
abbrev pub with_only_tag : ℕ → Transit → Transit
with_only_tag n t = record t { tags = n ∷ [] }

-- a tag is taken away
abbrev pub without_tag : ℕ → Transit → Transit
without_tag n t = record t { tags = filter (λ tag. not (nat_eq n tag)) t.tags }

-- What becomes of a packet

-- the verdict so far decides
abbrev pub decided : Transit → Option Transit
decided t = if t.verdict then Some t else None

-- an arriving packet goes on by the exit of its destination as it stands: it is delivered, forwarded or lost
abbrev pub onwards : (Transit → Option Transit) → (Transit → Option Transit) → Exit → Transit → Option Transit
onwards deliver forward Deliver t = deliver t
onwards deliver forward (Out entry) t = forward t
onwards deliver forward Lost t = None

-- the whole way of a packet, by what becomes of it before routing, delivered, forwarded and sent by the host: the
-- host's own is sent, any other arrives and is routed then
abbrev pub way_by : (Transit → Option Transit) → (Transit → Option Transit) → (Transit → Option Transit) → (Transit → Option Transit) → Site → Packet → Option Transit
way_by arrive deliver forward send site p =
    if nat_eq p.entry 0 then send (entered p)
    else option_and_then (λ t. onwards deliver forward (exit_at site p.entry t.packet.dst) t) (arrive (entered p))

-- what is used behind routing, by what is used where it is delivered and where it is forwarded
abbrev pub used_onwards : {X : Type 0} → (Transit → List X) → (Transit → List X) → Exit → Transit → List X
used_onwards delivering forwarding Deliver t = delivering t
used_onwards delivering forwarding (Out entry) t = forwarding t
used_onwards delivering forwarding Lost t = []

-- what is used on the whole way of a packet, by what becomes of it before routing, and by what is used there, where it
-- is delivered, forwarded and sent by the host; nothing behind a drop
abbrev pub used_by : {X : Type 0} → (Transit → Option Transit) → (Transit → List X) → (Transit → List X) → (Transit → List X) → (Transit → List X) → Site → Packet → List X
used_by arrive arriving delivering forwarding sending_out site p =
    if nat_eq p.entry 0 then sending_out (entered p)
    else arriving (entered p)
    ++ option_map_or (λ t. used_onwards delivering forwarding (exit_at site p.entry t.packet.dst) t) (arrive (entered p)) []

-- a new packet is accepted with what was written, an established one without a rewriting: it leaves with the ends of its connection
abbrev pub outcome_of : Kind → Option Transit → Outcome
outcome_of k None = Drop
outcome_of New (Some t) = Accept t.wrote
outcome_of (Est r) (Some t) = Accept nothing_written
