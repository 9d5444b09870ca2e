-- How much was read and written with success, by device: in requests, and in bytes.
use Rattle.std.specs.Prelude.{ℕ, ◌+◌, ◌*◌, Bool, true, false, ◌&&◌, ◌==◌, if◌then◌else◌, length, map, List, slice_index_or, slice_set, filter_map, sum_by, Option, Some, None}
use Rattle.std.specs.List.{list_any, range_with_len}
use Rattle.std.specs.Option.{option_map}
use Rattle.bd_base.specs.declared.act.Act.{Act}
use Rattle.bd_base.specs.declared.act.Act.TheVariants as acts
use Rattle.bd_base.specs.declared.act.Entry.{Entry}
use Rattle.bd_base.specs.declared.id.ReqId.{ReqId}
use Rattle.bd_base.specs.declared.request.Op.{Op}
use Rattle.bd_base.specs.declared.request.Op.TheVariants as ops
use Rattle.bd_base.specs.declared.request.Status.TheVariants.{Success}
use Rattle.bd_base.specs.declared.request.Way.{Way}
use Rattle.bd_base.specs.declared.request.Way.TheVariants as ways
use Rattle.bd_report.specs.Counts.{capped}
use Rattle.bd_report.specs.declared.submitted.Submitted.{Submitted}
use Rattle.bd_report.specs.declared.traffic.Traffic.{Traffic}

-- ---- which reads and writes were submitted

-- the way of a read or a write; no other request has one
abbrev pub way_of : Op → Option Way
way_of ops.Read = Some ways.Read
way_of (ops.Write fill) = Some ways.Write
way_of _ = None

-- the read or write that the act accepts
abbrev pub submitted_in_act : Act → Option Submitted
submitted_in_act (acts.Accept dev lba handle req op count) =
    option_map (λ way. record { request = req; device = dev; way = way; blocks = count }) (way_of op)
submitted_in_act _ = None

-- the same of an entry
abbrev pub submitted_in : Entry → Option Submitted
submitted_in entry = submitted_in_act entry.act

-- the reads and writes that were accepted, in order
abbrev pub all_submitted : List Entry → List Submitted
all_submitted trace = filter_map submitted_in trace

-- ---- which of them succeeded

-- whether two names are of one request: the same thread and the same number there
abbrev pub same_request : ReqId → ReqId → Bool
same_request a b = (a.thread == b.thread) && (a.seq == b.seq)

-- a request's completion with success
abbrev pub is_success_of : ReqId → Act → Bool
is_success_of request (acts.Complete req Success shown) = same_request req request
is_success_of request _ = false

-- whether a request completed with success
abbrev pub has_succeeded : List Entry → ReqId → Bool
has_succeeded trace request = list_any (λ entry. is_success_of request entry.act) trace

-- ---- how much they moved

-- whether two ways are the same
abbrev pub same_way : Way → Way → Bool
same_way ways.Read ways.Read = true
same_way ways.Write ways.Write = true
same_way _ _ = false

-- the blocks of a read or write, if it was submitted on the device, goes this way, and completed with success
abbrev pub moved_in : List Entry → ℕ → Way → Submitted → Option ℕ
moved_in trace device way submitted =
    if ((submitted.device.0 == device) && has_succeeded trace submitted.request) && same_way way submitted.way then Some submitted.blocks else None

-- the bytes of requests, by the number of blocks of each, at most 2^64 - 1
abbrev pub bytes_in : ℕ → List ℕ → ℕ
bytes_in size counts = capped (sum_by (λ count. count * size) counts)

-- reads and writes, by the number of blocks of each: how many, and their bytes, each at most 2^64 - 1
abbrev pub traffic_from : ℕ → List ℕ → List ℕ → Traffic
traffic_from size read written =
    record { reads = capped (length read); writes = capped (length written); read_bytes = bytes_in size read; write_bytes = bytes_in size written }

-- how much of these reads and writes was moved on the device, whose blocks have this size
abbrev pub traffic_among : List Entry → List Submitted → ℕ → ℕ → Traffic
traffic_among trace submitted device size =
    traffic_from size (filter_map (moved_in trace device ways.Read) submitted) (filter_map (moved_in trace device ways.Write) submitted)

-- how much was moved on each device, by number: a block size for each
abbrev pub device_traffic : List Entry → List Submitted → List ℕ → List Traffic
device_traffic trace submitted sizes =
    map (λ device. traffic_among trace submitted device (slice_index_or sizes device 0)) (range_with_len 0 (length sizes))

-- ---- one more request

abbrev pub no_traffic : Traffic
no_traffic = record { reads = 0; writes = 0; read_bytes = 0; write_bytes = 0 }

-- with one more request of these bytes, this way
abbrev pub with_bytes : Way → ℕ → Traffic → Traffic
with_bytes ways.Read bytes before =
    record { reads = capped (before.reads + 1); writes = before.writes; read_bytes = capped (before.read_bytes + bytes); write_bytes = before.write_bytes }
with_bytes ways.Write bytes before =
    record { reads = before.reads; writes = capped (before.writes + 1); read_bytes = before.read_bytes; write_bytes = capped (before.write_bytes + bytes) }

-- with one more request at its device, by the bytes of a block of each device; a device that isn't among these moves nothing here
abbrev pub moved_at : List ℕ → Submitted → List Traffic → List Traffic
moved_at sizes submitted devices =
    let device = submitted.device.0 in
    slice_set devices device (with_bytes submitted.way (submitted.blocks * slice_index_or sizes device 0) (slice_index_or devices device no_traffic))
