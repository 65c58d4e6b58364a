use Rattle.std.proofs.Common.{rules}
use Rattle.kx_kafka.specs.declared.api_key.ApiKey.TheVariants as api
use Rattle.kx_kafka.proofs.Bodies.{body_read, body_fails}
use Rattle.kx_kafka.proofs.request.read_body.Goals as goal

pub returns-in_err-read-in-Produce : goal.returns-in_err-read-in-Produce
returns-in_err-read-in-Produce c =
    let e = body_fails c.args.api api.Produce c.args.version c.args.reader.now.rest.now
    c.in_err-read-in-Produce.field-0.0 c.in-Produce.is c.in_err-read-in-Produce.ensures in
    search rules

pub returns-in_ok-read-in-Produce : goal.returns-in_ok-read-in-Produce
returns-in_ok-read-in-Produce c =
    body_read c.args.api api.Produce c.args.version c.args.reader.now.rest.now _ _ c.in-Produce.is
    c.in_ok-read-in-Produce.ensures

pub returns-in_err-read-in-Fetch : goal.returns-in_err-read-in-Fetch
returns-in_err-read-in-Fetch c =
    let e = body_fails c.args.api api.Fetch c.args.version c.args.reader.now.rest.now
    c.in_err-read-in-Fetch.field-0.0 c.in-Fetch.is c.in_err-read-in-Fetch.ensures in
    search rules

pub returns-in_ok-read-in-Fetch : goal.returns-in_ok-read-in-Fetch
returns-in_ok-read-in-Fetch c =
    body_read c.args.api api.Fetch c.args.version c.args.reader.now.rest.now _ _ c.in-Fetch.is
    c.in_ok-read-in-Fetch.ensures

pub returns-in_err-read-in-ListOffsets : goal.returns-in_err-read-in-ListOffsets
returns-in_err-read-in-ListOffsets c =
    let e = body_fails c.args.api api.ListOffsets c.args.version c.args.reader.now.rest.now
    c.in_err-read-in-ListOffsets.field-0.0 c.in-ListOffsets.is c.in_err-read-in-ListOffsets.ensures in
    search rules

pub returns-in_ok-read-in-ListOffsets : goal.returns-in_ok-read-in-ListOffsets
returns-in_ok-read-in-ListOffsets c =
    body_read c.args.api api.ListOffsets c.args.version c.args.reader.now.rest.now _ _ c.in-ListOffsets.is
    c.in_ok-read-in-ListOffsets.ensures

pub returns-in_err-read-in-Metadata : goal.returns-in_err-read-in-Metadata
returns-in_err-read-in-Metadata c =
    let e = body_fails c.args.api api.Metadata c.args.version c.args.reader.now.rest.now
    c.in_err-read-in-Metadata.field-0.0 c.in-Metadata.is c.in_err-read-in-Metadata.ensures in
    search rules

pub returns-in_ok-read-in-Metadata : goal.returns-in_ok-read-in-Metadata
returns-in_ok-read-in-Metadata c =
    body_read c.args.api api.Metadata c.args.version c.args.reader.now.rest.now _ _ c.in-Metadata.is
    c.in_ok-read-in-Metadata.ensures

pub returns-in_err-read-in-OffsetCommit : goal.returns-in_err-read-in-OffsetCommit
returns-in_err-read-in-OffsetCommit c =
    let e = body_fails c.args.api api.OffsetCommit c.args.version c.args.reader.now.rest.now
    c.in_err-read-in-OffsetCommit.field-0.0 c.in-OffsetCommit.is c.in_err-read-in-OffsetCommit.ensures in
    search rules

pub returns-in_ok-read-in-OffsetCommit : goal.returns-in_ok-read-in-OffsetCommit
returns-in_ok-read-in-OffsetCommit c =
    body_read c.args.api api.OffsetCommit c.args.version c.args.reader.now.rest.now _ _ c.in-OffsetCommit.is
    c.in_ok-read-in-OffsetCommit.ensures

pub returns-in_err-read-in-OffsetFetch : goal.returns-in_err-read-in-OffsetFetch
returns-in_err-read-in-OffsetFetch c =
    let e = body_fails c.args.api api.OffsetFetch c.args.version c.args.reader.now.rest.now
    c.in_err-read-in-OffsetFetch.field-0.0 c.in-OffsetFetch.is c.in_err-read-in-OffsetFetch.ensures in
    search rules

pub returns-in_ok-read-in-OffsetFetch : goal.returns-in_ok-read-in-OffsetFetch
returns-in_ok-read-in-OffsetFetch c =
    body_read c.args.api api.OffsetFetch c.args.version c.args.reader.now.rest.now _ _ c.in-OffsetFetch.is
    c.in_ok-read-in-OffsetFetch.ensures

pub returns-in_err-read-in-FindCoordinator : goal.returns-in_err-read-in-FindCoordinator
returns-in_err-read-in-FindCoordinator c =
    let e = body_fails c.args.api api.FindCoordinator c.args.version c.args.reader.now.rest.now
    c.in_err-read-in-FindCoordinator.field-0.0 c.in-FindCoordinator.is c.in_err-read-in-FindCoordinator.ensures in
    search rules

pub returns-in_ok-read-in-FindCoordinator : goal.returns-in_ok-read-in-FindCoordinator
returns-in_ok-read-in-FindCoordinator c =
    body_read c.args.api api.FindCoordinator c.args.version c.args.reader.now.rest.now _ _ c.in-FindCoordinator.is
    c.in_ok-read-in-FindCoordinator.ensures

pub returns-in_err-read-in-JoinGroup : goal.returns-in_err-read-in-JoinGroup
returns-in_err-read-in-JoinGroup c =
    let e = body_fails c.args.api api.JoinGroup c.args.version c.args.reader.now.rest.now
    c.in_err-read-in-JoinGroup.field-0.0 c.in-JoinGroup.is c.in_err-read-in-JoinGroup.ensures in
    search rules

pub returns-in_ok-read-in-JoinGroup : goal.returns-in_ok-read-in-JoinGroup
returns-in_ok-read-in-JoinGroup c =
    body_read c.args.api api.JoinGroup c.args.version c.args.reader.now.rest.now _ _ c.in-JoinGroup.is
    c.in_ok-read-in-JoinGroup.ensures

pub returns-in_err-read-in-Heartbeat : goal.returns-in_err-read-in-Heartbeat
returns-in_err-read-in-Heartbeat c =
    let e = body_fails c.args.api api.Heartbeat c.args.version c.args.reader.now.rest.now
    c.in_err-read-in-Heartbeat.field-0.0 c.in-Heartbeat.is c.in_err-read-in-Heartbeat.ensures in
    search rules

pub returns-in_ok-read-in-Heartbeat : goal.returns-in_ok-read-in-Heartbeat
returns-in_ok-read-in-Heartbeat c =
    body_read c.args.api api.Heartbeat c.args.version c.args.reader.now.rest.now _ _ c.in-Heartbeat.is
    c.in_ok-read-in-Heartbeat.ensures

pub returns-in_err-read-in-LeaveGroup : goal.returns-in_err-read-in-LeaveGroup
returns-in_err-read-in-LeaveGroup c =
    let e = body_fails c.args.api api.LeaveGroup c.args.version c.args.reader.now.rest.now
    c.in_err-read-in-LeaveGroup.field-0.0 c.in-LeaveGroup.is c.in_err-read-in-LeaveGroup.ensures in
    search rules

pub returns-in_ok-read-in-LeaveGroup : goal.returns-in_ok-read-in-LeaveGroup
returns-in_ok-read-in-LeaveGroup c =
    body_read c.args.api api.LeaveGroup c.args.version c.args.reader.now.rest.now _ _ c.in-LeaveGroup.is
    c.in_ok-read-in-LeaveGroup.ensures

pub returns-in_err-read-in-SyncGroup : goal.returns-in_err-read-in-SyncGroup
returns-in_err-read-in-SyncGroup c =
    let e = body_fails c.args.api api.SyncGroup c.args.version c.args.reader.now.rest.now
    c.in_err-read-in-SyncGroup.field-0.0 c.in-SyncGroup.is c.in_err-read-in-SyncGroup.ensures in
    search rules

pub returns-in_ok-read-in-SyncGroup : goal.returns-in_ok-read-in-SyncGroup
returns-in_ok-read-in-SyncGroup c =
    body_read c.args.api api.SyncGroup c.args.version c.args.reader.now.rest.now _ _ c.in-SyncGroup.is
    c.in_ok-read-in-SyncGroup.ensures

pub returns-in_err-read-in-ApiVersions : goal.returns-in_err-read-in-ApiVersions
returns-in_err-read-in-ApiVersions c =
    let e = body_fails c.args.api api.ApiVersions c.args.version c.args.reader.now.rest.now
    c.in_err-read-in-ApiVersions.field-0.0 c.in-ApiVersions.is c.in_err-read-in-ApiVersions.ensures in
    search rules

pub returns-in_ok-read-in-ApiVersions : goal.returns-in_ok-read-in-ApiVersions
returns-in_ok-read-in-ApiVersions c =
    body_read c.args.api api.ApiVersions c.args.version c.args.reader.now.rest.now _ _ c.in-ApiVersions.is
    c.in_ok-read-in-ApiVersions.ensures

pub returns-in_err-read-in-InitProducerId : goal.returns-in_err-read-in-InitProducerId
returns-in_err-read-in-InitProducerId c =
    let e = body_fails c.args.api api.InitProducerId c.args.version c.args.reader.now.rest.now
    c.in_err-read-in-InitProducerId.field-0.0 c.in-InitProducerId.is c.in_err-read-in-InitProducerId.ensures in
    search rules

pub returns-in_ok-read-in-InitProducerId : goal.returns-in_ok-read-in-InitProducerId
returns-in_ok-read-in-InitProducerId c =
    body_read c.args.api api.InitProducerId c.args.version c.args.reader.now.rest.now _ _ c.in-InitProducerId.is
    c.in_ok-read-in-InitProducerId.ensures

pub returns-in_err-read-in-AddPartitionsToTxn : goal.returns-in_err-read-in-AddPartitionsToTxn
returns-in_err-read-in-AddPartitionsToTxn c =
    let e = body_fails c.args.api api.AddPartitionsToTxn c.args.version c.args.reader.now.rest.now
    c.in_err-read-in-AddPartitionsToTxn.field-0.0 c.in-AddPartitionsToTxn.is c.in_err-read-in-AddPartitionsToTxn.ensures in
    search rules

pub returns-in_ok-read-in-AddPartitionsToTxn : goal.returns-in_ok-read-in-AddPartitionsToTxn
returns-in_ok-read-in-AddPartitionsToTxn c =
    body_read c.args.api api.AddPartitionsToTxn c.args.version c.args.reader.now.rest.now _ _ c.in-AddPartitionsToTxn.is
    c.in_ok-read-in-AddPartitionsToTxn.ensures

pub returns-in_err-read-in-AddOffsetsToTxn : goal.returns-in_err-read-in-AddOffsetsToTxn
returns-in_err-read-in-AddOffsetsToTxn c =
    let e = body_fails c.args.api api.AddOffsetsToTxn c.args.version c.args.reader.now.rest.now
    c.in_err-read-in-AddOffsetsToTxn.field-0.0 c.in-AddOffsetsToTxn.is c.in_err-read-in-AddOffsetsToTxn.ensures in
    search rules

pub returns-in_ok-read-in-AddOffsetsToTxn : goal.returns-in_ok-read-in-AddOffsetsToTxn
returns-in_ok-read-in-AddOffsetsToTxn c =
    body_read c.args.api api.AddOffsetsToTxn c.args.version c.args.reader.now.rest.now _ _ c.in-AddOffsetsToTxn.is
    c.in_ok-read-in-AddOffsetsToTxn.ensures

pub returns-in_err-read-in-EndTxn : goal.returns-in_err-read-in-EndTxn
returns-in_err-read-in-EndTxn c =
    let e = body_fails c.args.api api.EndTxn c.args.version c.args.reader.now.rest.now
    c.in_err-read-in-EndTxn.field-0.0 c.in-EndTxn.is c.in_err-read-in-EndTxn.ensures in
    search rules

pub returns-in_ok-read-in-EndTxn : goal.returns-in_ok-read-in-EndTxn
returns-in_ok-read-in-EndTxn c =
    body_read c.args.api api.EndTxn c.args.version c.args.reader.now.rest.now _ _ c.in-EndTxn.is
    c.in_ok-read-in-EndTxn.ensures

pub returns-in_err-read-in-TxnOffsetCommit : goal.returns-in_err-read-in-TxnOffsetCommit
returns-in_err-read-in-TxnOffsetCommit c =
    let e = body_fails c.args.api api.TxnOffsetCommit c.args.version c.args.reader.now.rest.now
    c.in_err-read-in-TxnOffsetCommit.field-0.0 c.in-TxnOffsetCommit.is c.in_err-read-in-TxnOffsetCommit.ensures in
    search rules

pub returns-in_ok-read-in-TxnOffsetCommit : goal.returns-in_ok-read-in-TxnOffsetCommit
returns-in_ok-read-in-TxnOffsetCommit c =
    body_read c.args.api api.TxnOffsetCommit c.args.version c.args.reader.now.rest.now _ _ c.in-TxnOffsetCommit.is
    c.in_ok-read-in-TxnOffsetCommit.ensures
