use Rattle.std.proofs.Common.{List, Ok, All, subst}
use Rattle.fws_num.specs.declared.comments.Comments.TheVariants.{HashLine}
use Rattle.fws_num.specs.Lines.{read_of}
use Rattle.fws_net.specs.declared.packet.Packet.{Packet}
use Rattle.fws_net.specs.Reading.{ReadGiven, text_read}
use Rattle.fws_trace.specs.Lines.{IsGiven, line_step}
use Rattle.fws_trace.specs.PacketText.{spelled_packet, packets_of, IsOfSite}
use Rattle.fws_trace.proofs.OfSite.{listed_of_site, read_has}
use Rattle.fws_trace.proofs.packets.read_packets.Goals as goal

pub returns-clause-given : goal.returns-clause-given
returns-clause-given c = c.listed.ensures (spelled_packet c.args.site.now) c.args.text.now
    (subst (λ (xs : List Packet). ReadGiven c.read_text.result (text_read HashLine (line_step (spelled_packet c.args.site.now)) (λ ys. Ok ys) xs c.args.text.now))
    c.new.ensures c.read_text.ensures)

pub returns-clause-of_site : goal.returns-clause-of_site
returns-clause-of_site c =
    let site = c.args.site.now in
    let text = c.args.text.now in
    read_has c.listed.result (λ packets. packets.items) (packets_of text site) (All (IsOfSite site)) (λ answer. IsGiven answer (packets_of text site))
    (returns-clause-given c) (listed_of_site site (read_of HashLine text).lines)
