-- Each clause is the history's own computation.
use Rattle.contract_rules.proofs.Worked.{six_links, six_high_links, beside_kept_link, kept_link_gone, two_links, new_session, cancel_all_and_request, not_live, latest_sample}
use Rattle.contract_rules.proofs.histories_of_links.Goals as goal

pub returns-clause-six_links : goal.returns-clause-six_links
returns-clause-six_links c = six_links

pub returns-clause-six_high_links : goal.returns-clause-six_high_links
returns-clause-six_high_links c = six_high_links

pub returns-clause-beside_kept_link : goal.returns-clause-beside_kept_link
returns-clause-beside_kept_link c = beside_kept_link

pub returns-clause-kept_link_gone : goal.returns-clause-kept_link_gone
returns-clause-kept_link_gone c = kept_link_gone

pub returns-clause-two_links : goal.returns-clause-two_links
returns-clause-two_links c = two_links

pub returns-clause-new_session : goal.returns-clause-new_session
returns-clause-new_session c = new_session

pub returns-clause-cancel_all_and_request : goal.returns-clause-cancel_all_and_request
returns-clause-cancel_all_and_request c = cancel_all_and_request

pub returns-clause-not_live : goal.returns-clause-not_live
returns-clause-not_live c = not_live

pub returns-clause-latest_sample : goal.returns-clause-latest_sample
returns-clause-latest_sample c = latest_sample
