-- `add_item` adds one item.
-- By what the item is.
use Rattle.sdp_reader.proofs.add_item.Goals as goal

pub returns-in-Malformed : goal.returns-in-Malformed
returns-in-Malformed c = rw (c.refuse_at.ensures, c.in-Malformed.is)

pub returns-in-Other : goal.returns-in-Other
returns-in-Other c = rw c.in-Other.is

pub returns-in-VpidCode : goal.returns-in-VpidCode
returns-in-VpidCode c = rw c.in-VpidCode.is c.add_code.ensures

pub returns-in-DidSdid : goal.returns-in-DidSdid
returns-in-DidSdid c = rw c.in-DidSdid.is c.add_pair.ensures
