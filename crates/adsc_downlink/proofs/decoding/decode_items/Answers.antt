-- Each clause follows from what the reading gives.
use Rattle.std.proofs.Common.{map}
use Rattle.bit_terms.specs.Octets.{octets_bits}
use Rattle.adsc_downlink.specs.ItemView.{item_data}
use Rattle.adsc_downlink.proofs.Decoded.{decoded_found, decoded_fault, decoded_refused}
use Rattle.adsc_downlink.proofs.decoding.decode_items.Goals as goal

pub returns-clause-found : goal.returns-clause-found
returns-clause-found c = decoded_found (map item_data c.read_items.new.list.items) (octets_bits c.args.payload.now) c.read_items.result c.read_items.ensures.exact

pub returns-clause-fault : goal.returns-clause-fault
returns-clause-fault c = decoded_fault (map item_data c.read_items.new.list.items) (octets_bits c.args.payload.now) c.read_items.result c.read_items.ensures.exact

pub returns-clause-refused : goal.returns-clause-refused
returns-clause-refused c = decoded_refused (map item_data c.read_items.new.list.items) (octets_bits c.args.payload.now) c.read_items.result c.read_items.ensures.exact
