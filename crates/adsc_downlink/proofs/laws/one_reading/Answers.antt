-- Each clause is a law over lists of bits.
use Rattle.adsc_downlink.proofs.OneReading.{some_reading, never_both_readings, same_items_read, same_fault_found}
use Rattle.adsc_downlink.proofs.laws.one_reading.Goals as goal

pub returns-clause-some : goal.returns-clause-some
returns-clause-some c = some_reading

pub returns-clause-never_both : goal.returns-clause-never_both
returns-clause-never_both c = never_both_readings

pub returns-clause-same_items : goal.returns-clause-same_items
returns-clause-same_items c = same_items_read

pub returns-clause-same_fault : goal.returns-clause-same_fault
returns-clause-same_fault c = same_fault_found
