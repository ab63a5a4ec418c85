-- What contracts see of a rule that is read.
use Rattle.fws_pf.specs.declared.rule_draft.RuleDraft.{RuleDraft}
use Rattle.fws_pf_read.specs.declared.draft.Draft.{Draft}

-- the draft, with the names of tags in their order
abbrev pub draft_of : Draft → RuleDraft
draft_of d = record {
  verb = d.verb;
  negated = d.negated;
  expects = d.expects;
  value = d.value;
  past = d.past;
  way = d.way;
  quick = d.quick;
  faces = d.faces;
  protocols = d.protocols;
  sources = d.sources;
  source_ports = d.source_ports;
  destinations = d.destinations;
  destination_ports = d.destination_ports;
  options = d.options;
  has_flags = d.has_flags;
  tests_flags = d.tests_flags;
  has_icmp_type = d.has_icmp_type;
  has_state = d.has_state;
  stateless = d.stateless;
  has_tag = d.has_tag;
  has_tagged = d.has_tagged;
  has_label = d.has_label;
  tag = d.tag;
  target = d.target;
  tags = d.tags;
}
